-- A step that is followed.

use Rattle.std.proofs.Common.{◌≡◌, ℕ, suc, Bool, List, length, refl, sym, ap, subst}
use Rattle.std.specs.Prelude.{is_some}
use Rattle.std.specs.List.{slice_get}
use Rattle.ada_program.specs.declared.program.TypeDefinition.{TypeDefinition}
use Rattle.ada_meaning.specs.declared.state.Mode.{Mode}
use Rattle.ada_meaning.specs.declared.state.Value.{Value}
use Rattle.ada_meaning.specs.State.{Activation, Master}
use Rattle.ada_meaning.specs.Named.{State}
use Rattle.ada_meaning.specs.Run.{Event}
use Rattle.ada_storage.specs.State.{in_list}
use Rattle.ada_storage.specs.State as storage
use Rattle.ada_storage.specs.Following.{Goes}
use Rattle.ada_storage.proofs.Invariant.{Alive}
use Rattle.ada_following.specs.Reading.{event_seen, listed_in, is_out, part_of, joins_seen}
use Rattle.ada_following.proofs.Heaps.{Heap, Alike}
use Rattle.ada_following.proofs.PartTables.{Parts}
use Rattle.ada_following.proofs.Frames.{Control, Static, static, listing, Reads}
use Rattle.ada_following.proofs.Places.{Listing}
use Rattle.ada_following.proofs.Stands.{Stands}
use Rattle.ada_following.proofs.Sound.{Sound}
use Rattle.ada_following.proofs.Goings.{Silent, stands_still}

-- What is known of a state of storage, but for what is under way.
pub record Facts (types : List TypeDefinition) (h : Heap) (ms : List Master) (n : ℕ) (s : storage.State) : Type 0 where
  pub out : (o : ℕ) → (s.objects o).lives ≡ is_out (slice_get h o)
  pub shape : Parts types h s.objects s.alive s.turn
  pub created : s.created ≡ length h
  pub next : s.next ≡ suc n
  pub sound : Sound h ms

-- What such a state of storage has, where the state of the program is known by its parts.
pub record Arrived (types : List TypeDefinition) (acts : List (Activation Value)) (h : Heap) (ms : List Master) (n : ℕ) (mode : Mode) (k : Control) (t : storage.State) : Type 0 where
  pub control : storage.Control
  pub moded : storage.Mode
  pub is_control : t.control ≡ control
  pub is_moded : t.mode ≡ moded
  pub stands : Stands types h t.alive acts ms mode k control moded
  pub facts : Facts types h ms n t

-- A step of a program, from what is seen as this state, is followed by storage, which perhaps does more then that shows nothing.
pub record Follows (types : List TypeDefinition) (s : storage.State) (e : Event) (y : State) : Type 0 where
  pub reached : storage.State
  pub to : storage.State
  pub goes : Goes (event_seen e) s reached
  pub later : Silent reached to
  pub arrived : Arrived types y.activations y.heap y.masters y.next y.mode y.control to

pub lands_later :
    (types : List TypeDefinition) (s r t : storage.State) (e : Event) (y : State) (h : Heap) (ms : List Master) (n : ℕ) (mode : Mode) (k : Control)
    → Goes (event_seen e) s r → Silent r t → Arrived types y.activations h ms n mode k t → y.heap ≡ h → y.masters ≡ ms → y.next ≡ n → y.mode ≡ mode → y.control ≡ k → Follows types s e y
lands_later types s r t e y h ms n mode k goes later z a b c d f = record {
  reached = r;
  to = t;
  goes = goes;
  later = later;
  arrived =
      subst (λ (g : Heap). Arrived types y.activations g y.masters y.next y.mode y.control t) (sym a)
      (subst (λ (ns : List Master). Arrived types y.activations h ns y.next y.mode y.control t) (sym b)
      (subst (λ (i : ℕ). Arrived types y.activations h ms i y.mode y.control t) (sym c)
      (subst (λ (l : Mode). Arrived types y.activations h ms n l y.control t) (sym d)
      (subst (λ (l : Control). Arrived types y.activations h ms n mode l t) (sym f) z))));
}

pub lands :
    (types : List TypeDefinition) (s t : storage.State) (e : Event) (y : State) (h : Heap) (ms : List Master) (n : ℕ) (mode : Mode) (k : Control)
    → Goes (event_seen e) s t → Arrived types y.activations h ms n mode k t → y.heap ≡ h → y.masters ≡ ms → y.next ≡ n → y.mode ≡ mode → y.control ≡ k → Follows types s e y
lands types s t e y h ms n mode k goes z a b c d f = lands_later types s t t e y h ms n mode k goes (stands_still t t refl) z a b c d f

-- A heap in which the same is listed, and of which the same is known.
pub same_static : (g h : Heap) → ((o p : ℕ) → is_some (part_of (slice_get h o) p) ≡ is_some (part_of (slice_get g o) p)) → ((o : ℕ) (ms : List Master) → joins_seen (slice_get h o) ms ≡ joins_seen (slice_get g o) ms) → static h ≡ static g
same_static g h parts joins = λ i. record { holds = λ o p. parts o p i; joins = λ o ms. joins o ms i }

pub same_listing : (g h : Heap) → ((n : ℕ) → listed_in h n ≡ listed_in g n) → listing h ≡ listing g
same_listing g h e = λ i n o. in_list o (e n i)

pub reads_same :
    {types : List TypeDefinition} {S R : Static} {L K : Listing} {A : Alive} {acts : List (Activation Value)} {k : Control} {ms : List Master} {c : storage.Control} {w : Bool} → R ≡ S → K ≡ L
    → Reads types S w L A acts k ms c → Reads types R w K A acts k ms c
reads_same {types} {S} {R} {L} {K} {A} {acts} {k} {ms} {c} {w} e f r = subst (λ (Q : Static). Reads types Q w K A acts k ms c) (sym e) (subst (λ (M : Listing). Reads types S w M A acts k ms c) (sym f) r)

pub reads_alike :
    {types : List TypeDefinition} {A : Alive} {acts : List (Activation Value)} {k : Control} {ms : List Master} {c : storage.Control} {w : Bool} (g h : Heap) → Alike g h
    → Reads types (static g) w (listing g) A acts k ms c → Reads types (static h) w (listing h) A acts k ms c
reads_alike g h a r = reads_same (same_static g h (λ o p. ap is_some (a.parts o p)) a.joins) (same_listing g h a.listed) r
