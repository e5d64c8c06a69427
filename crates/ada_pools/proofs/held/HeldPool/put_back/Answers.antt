-- The objects of the other blocks are noted as before.
use Rattle.std.proofs.Common.{◌≡◌, ◌∙◌, sym, ap, subst, ℕ, List, Option, Some, true}
use Rattle.std.specs.Prelude.{nat_eq}
use Rattle.std.specs.Option.{option_eq}
use Rattle.ada_pools.specs.Entries.{entries_of}
use Rattle.ada_pools.proofs.Holding.{owned, put_back_sound}
use Rattle.ada_pools.proofs.held.HeldPool.put_back.Goals as goal

pub invariant_of-self : goal.invariant_of-self
invariant_of-self c =
    let is : entries_of c.self.inside.objects.items c.args.place ≡ Some c.args.object =
    owned (entries_of c.self.inside.objects.items c.args.place) c.args.object (subst (λ (e : Option ℕ). option_eq nat_eq e (Some c.args.object) ≡ true) (c.entry.ensures ∙ ap (λ (xs : List (Option ℕ)). entries_of xs c.args.place) c.deref.ensures.value) (sym c.eq.ensures ∙ c.if-eq.true)) in
    put_back_sound c.self.inside.words.tiles c.give_back.new.self.tiles c.self.inside.objects.items c.args.place c.give_back.ensures.tiling c.give_back.ensures.stay c.args.object is c.self.invariant
