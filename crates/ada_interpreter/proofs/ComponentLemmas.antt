-- The last component of a path, and those before it.

use Rattle.std.proofs.Common.{◌≡◌, ℕ, ℤ, List, [], ◌∷◌, ◌++◌, map, refl, ap}
use Rattle.ada_program.specs.declared.program.ComponentNo.{ComponentNo}
use Rattle.ada_program.specs.Form.{RightForm, component_number}
use Rattle.ada_meaning.specs.declared.state.Value.{Value}
use Rattle.ada_program.specs.declared.program.TypeDefinition.{TypeDefinition}
use Rattle.ada_meaning.specs.Frame.{Frame}
use Rattle.ada_meaning.specs.Frame as frame
use Rattle.ada_meaning.specs.Step.{at, held, named_next, holder_next, before_last, last_of, assign_next, frees_next, gets_next, open_next}
use Rattle.ada_meaning.specs.Named.{State, named, inside}
use Rattle.ada_interpreter.specs.Objects.{first_in}

before_split : (c : ℕ) (cs : List ComponentNo) (last : ComponentNo) → before_last c (map component_number (cs ++ last ∷ [])) ≡ c ∷ map component_number cs
before_split c [] last = refl
before_split c (d ∷ cs) last = ap (λ (ds : List ℕ). c ∷ ds) (before_split d.0 cs last)

last_split : (c : ℕ) (cs : List ComponentNo) (last : ComponentNo) → last_of c (map component_number (cs ++ last ∷ [])) ≡ last.0
last_split c [] last = refl
last_split c (d ∷ cs) last = last_split d.0 cs last

-- So the object of the last one is found behind those before it, and the first of them is counted from where the record begins that a variable stands for.
holder_split : (c : ComponentNo) (cs : List ComponentNo) (last : ComponentNo) (x : ℕ) (frame_of : ℕ → Frame Value) (s : State) → holder_next named c.0 (map component_number (cs ++ last ∷ [])) x frame_of s ≡ named_next named (map component_number (c ∷ cs)) x (at (frame_of last.0 ∷ s.control) s)
holder_split c cs last x frame_of s =
    let first : ℕ = inside (held named s x) c.0 in
    rw (before_split first cs last, last_split first cs last) refl

-- An assignment to the last component of a path finds the object behind those before it.
pub assign_split : (cs : List ComponentNo) (last n : ComponentNo) (x : ℕ) (right : RightForm) (s : State) → n.0 ≡ first_in (held named s x) (map component_number cs) last.0 → assign_next named (map component_number (cs ++ last ∷ [])) x right s ≡ named_next named (map component_number cs) x (at (frame.Targets n.0 right ∷ s.control) s)
assign_split [] last n x right s is = rw is refl
assign_split (c ∷ cs) last n x right s is = rw is (holder_split c cs last x (λ (d : ℕ). frame.Targets d right) s)

-- So does what takes the next number of the input.
pub gets_split : (cs : List ComponentNo) (last n : ComponentNo) (x : ℕ) (input : List ℤ) (s : State) → n.0 ≡ first_in (held named s x) (map component_number cs) last.0 → gets_next named (map component_number (cs ++ last ∷ [])) x input s ≡ named_next named (map component_number cs) x (at (frame.Receives n.0 ∷ s.control) s)
gets_split [] last n x input s is = rw is refl
gets_split (c ∷ cs) last n x input s is = rw is (holder_split c cs last x (λ (d : ℕ). frame.Receives d) s)

-- So does a Free.
pub frees_split : (types : List TypeDefinition) (cs : List ComponentNo) (last n : ComponentNo) (access x : ℕ) (s : State) → n.0 ≡ first_in (held named s x) (map component_number cs) last.0 → frees_next named types (map component_number (cs ++ last ∷ [])) access x s ≡ named_next named (map component_number cs) x (at (frame.FreesIn access n.0 ∷ s.control) s)
frees_split types [] last n access x s is = rw is refl
frees_split types (c ∷ cs) last n access x s is = rw is (holder_split c cs last x (λ (d : ℕ). frame.FreesIn access d) s)

-- So does what is given for a formal parameter of mode `in out`.
pub opens_split : (cs : List ComponentNo) (last n : ComponentNo) (x : ℕ) (s : State) → n.0 ≡ first_in (held named s x) (map component_number cs) last.0 → open_next named (map component_number (cs ++ last ∷ [])) x s ≡ named_next named (map component_number cs) x (at (frame.OpensIn n.0 ∷ s.control) s)
opens_split [] last n x s is = rw is refl
opens_split (c ∷ cs) last n x s is = rw is (holder_split c cs last x (λ (d : ℕ). frame.OpensIn d) s)
