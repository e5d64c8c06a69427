-- The block of the object is noted, if there is memory for that.
use Rattle.std.proofs.Common.{arith, refl, sym}
use Rattle.ada_pools.proofs.Holding.{no_room, cut_sound, same_sound, noted_sound, fits_from}
use Rattle.ada_pools.proofs.held.HeldPool.take.Goals as goal

pub returns-in_default : goal.returns-in_default
returns-in_default c =
    rw (sym c.self.view_is) (no_room c.self.inside.words.tiles c.self.inside.objects.items c.args.words c.self.invariant (omega (arith, c.in_default.ensures)), refl)

pub invariant_of-self-in_err-set_entry : goal.invariant_of-self-in_err-set_entry
invariant_of-self-in_err-set_entry c =
    same_sound c.allocate.new.self.tiles c.self.inside.objects.items c.set_entry.new.entries.items c.in_err-set_entry.ensures.err
    (cut_sound c.self.inside.words.tiles c.allocate.new.self.tiles c.self.inside.objects.items c.in-Ok.words c.in-Ok-allocate.place.0 (fits_from _ _ c.in-Ok-allocate.ensures.taken) c.in-Ok-allocate.ensures.stay c.self.invariant)

pub invariant_of-self-2 : goal.invariant_of-self-2
invariant_of-self-2 c =
    noted_sound c.allocate.new.self.tiles c.self.inside.objects.items c.set_entry.new.entries.items c.in-Ok-allocate.place.0 c.args.object c.in_ok-set_entry.ensures.set
    (omega (arith, c.in-Ok-allocate.ensures.room))
    (cut_sound c.self.inside.words.tiles c.allocate.new.self.tiles c.self.inside.objects.items c.in-Ok.words c.in-Ok-allocate.place.0 (fits_from _ _ c.in-Ok-allocate.ensures.taken) c.in-Ok-allocate.ensures.stay c.self.invariant)
