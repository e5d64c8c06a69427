-- Masters that are entered, and what is out where nothing is under way.

use Rattle.std.proofs.Common.{◌≡◌, ℕ, false, List, sym, ap, ◌∙◌}
use Rattle.ada_storage.specs.State.{Event, Control, stops, acts, leaves, finalizes, frees, initializes, undoes, assigns, adjusts, State, placed}
use Rattle.ada_storage.specs.Law.{Run, first_state, Falling}
use Rattle.ada_storage.proofs.Invariant.{Alive, Objects, after, Fits}
use Rattle.ada_storage.proofs.Facts.{is_dead}
use Rattle.ada_storage.proofs.Runs.{first_inv, inv_run}

falling : (A : Alive) (T : Objects) (k : Control) → Fits A T k → Falling k
falling A T stops f = tt
falling A T (acts m k) f = (f.1, falling A T k f.2)
falling A T (leaves m mode k) f = (f.1, falling A T k f.2)
falling A T (finalizes m i o fs mode k) f = (f.2.1, falling A T k f.2.2)
falling A T (frees n o fs k) f = falling A T k f.2
falling A T (initializes o joins js done k) f = falling A T k f.4
falling A T (undoes n o done k) f = falling A T k f.2
falling A T (assigns n o g fs k) f = falling (after A o g) T k f.4
falling A T (adjusts o g js done k) f = falling (after A o g) T k f.4

pub masters_fall : (last : State) (events : List Event) → Run first_state events last → Falling last.control
masters_fall last events run = falling last.alive last.objects last.control (inv_run run first_inv).fits

pub all_back : (last : State) (events : List Event) → Run first_state events last → last.control ≡ stops → (o : ℕ) → (last.objects o).lives ≡ false
all_back last events run ends o =
    let places = (inv_run run first_inv).places o in
    is_dead (last.objects o).lives (sym places ∙ ap (λ (k : Control). placed o k) ends)
