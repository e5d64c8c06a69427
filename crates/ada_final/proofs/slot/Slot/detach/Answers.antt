-- The item's place, which is its last from the front, is its newest occurrence.
use Rattle.std.proofs.Common.{refl}
use Rattle.ada_final.proofs.ItemLemmas.{detached_view, detached_found, absent_view, absent_found}
use Rattle.ada_final.proofs.slot.Slot.detach.Goals as goal

pub returns-in-Some-clause-found : goal.returns-in-Some-clause-found
returns-in-Some-clause-found c =
    (λ _. detached_found _ _ _ c.self.view_is c.requires _ _ _ c.deref.ensures.value c.in-Some.ensures.found, λ _. refl)

pub returns-in-Some-clause-taken : goal.returns-in-Some-clause-taken
returns-in-Some-clause-taken c =
    detached_view _ _ _ c.self.view_is c.requires _ _ _ _ c.deref.ensures.value c.in-Some.ensures.found c.remove.ensures.items

pub returns-in-None-clause-found : goal.returns-in-None-clause-found
returns-in-None-clause-found c =
    (λ never. absurd (cc), λ there. absurd (absent_found _ _ _ c.self.view_is c.requires _ _ c.deref.ensures.value c.in-None.ensures.absent there))

pub returns-in-None-clause-taken : goal.returns-in-None-clause-taken
returns-in-None-clause-taken c =
    absent_view _ _ _ c.self.view_is c.requires _ _ c.deref.ensures.value c.in-None.ensures.absent
