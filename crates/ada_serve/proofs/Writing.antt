-- What calls one after another move, and what is written piece by piece.

use Rattle.std.proofs.Common.{◌≡◌, ◌≢◌, ℕ, ◌+◌, ◌≤◌, add_assoc, add-zero, subst, length, take, List, [], ◌++◌, append_assoc, append-nil, refl, sym, ◌∙◌, ap, Option, Some, None, Result, Ok, Err}
use Rattle.std.proofs.lemmas.List.{length-take-le}
use Rattle.std.specs.Io.KnownBytes.{Appends}
use Rattle.ada_serve.specs.declared.serve.ServeFault.{ServeFault}
use Rattle.ada_serve.specs.declared.serve.ServeFault.TheVariants.{BadInput, InputTooLong, ReadFailed, WriteFailed, NoSuchPool, NoMemory}
use Rattle.ada_serve.specs.Calls.{InCalls, none, more, Works, FaultWrites, OnlyWrites}
use Rattle.ada_serve.specs.Written.{AppendsFront}

-- calls, and then more of them
pub calls_both : {X : Type 0} {call : X → Option (List ℕ) → X → Type 0} {first mid last : X} (n k calls : ℕ) (bytes text all : List ℕ) → InCalls call first n bytes mid → InCalls call mid k text last → calls ≡ n + k → all ≡ bytes ++ text → InCalls call first calls all last
calls_both {X = X} {call = call} {first = first} {mid = mid} n k calls bytes text all before none e f =
    subst (λ (m : ℕ). InCalls call first m all mid) (sym (e ∙ add-zero n)) (subst (λ (bs : List ℕ). InCalls call first n bs mid) (sym (f ∙ append-nil bytes)) before)
calls_both n k calls bytes text all before (more m some rest at after isnt moves count is) e f = more (n + m) (bytes ++ some) rest at (calls_both n m (n + m) bytes some (bytes ++ some) before after refl refl) isnt moves (e ∙ ap (λ k. n + k) count ∙ sym (add_assoc n m 1)) (f ∙ ap (λ text. bytes ++ text) is ∙ sym (append_assoc bytes some rest))

-- nothing was called yet
pub idle : {X : Type 0} (call : X → Option (List ℕ) → X → Type 0) (x : X) → Works call x x
idle call x = record { calls = 0; bytes = []; moves = none }

-- nothing is written yet
pub appends_none : (old : Option (List ℕ)) → Appends old old []
appends_none None = tt
appends_none (Some xs) = sym (append-nil xs)

pub appends_both : (old mid new : Option (List ℕ)) (a b : List ℕ) → Appends old mid a → Appends mid new b → Appends old new (a ++ b)
appends_both None mid new a b h g = tt
appends_both (Some xs) None new a b h g = absurd h
appends_both (Some xs) (Some ys) None a b h g = absurd g
appends_both (Some xs) (Some ys) (Some zs) a b h g = g ∙ ap (λ front. front ++ b) h ∙ append_assoc xs a b

pub no_front : (old : Option (List ℕ)) (text : List ℕ) → AppendsFront old old text
no_front old text = record { front = []; rest = text; split = refl; written = appends_none old }

-- one call more
pub works_more : {X : Type 0} (call : X → Option (List ℕ) → X → Type 0) (first mid last : X) (bytes : List ℕ) → Works call first mid → bytes ≢ [] → call mid (Some bytes) last → Works call first last
works_more call first mid last bytes w isnt moves = record { calls = w.calls + 1; bytes = w.bytes ++ bytes; moves = more w.calls w.bytes bytes mid w.moves isnt moves refl refl }

pub works_both : {X : Type 0} (call : X → Option (List ℕ) → X → Type 0) (first mid last : X) → Works call first mid → Works call mid last → Works call first last
works_both call first mid last a b = record { calls = a.calls + b.calls; bytes = a.bytes ++ b.bytes; moves = calls_both a.calls b.calls (a.calls + b.calls) a.bytes b.bytes (a.bytes ++ b.bytes) a.moves b.moves refl refl }

-- what was taken is something
pub taken_some : (k : ℕ) (bytes : List ℕ) → k ≢ 0 → k ≤ length bytes → take k bytes ≢ []
taken_some k bytes some bound is = some (sym (length-take-le k bytes bound) ∙ ap length is)

-- calls, and then calls that end at a fault
pub writes_fault : {W : Type 0} (writes : W → Option (List ℕ) → W → Type 0) (first mid last : W) (fault : ServeFault) → Works writes first mid → FaultWrites writes mid last fault → FaultWrites writes first last fault
writes_fault writes first mid last (BadInput place) a b = absurd b
writes_fault writes first mid last InputTooLong a b = absurd b
writes_fault writes first mid last ReadFailed a b = absurd b
writes_fault writes first mid last WriteFailed a b = record {
  calls = a.calls + b.calls;
  bytes = a.bytes ++ b.bytes;
  mid = b.mid;
  took = calls_both a.calls b.calls (a.calls + b.calls) a.bytes b.bytes (a.bytes ++ b.bytes) a.moves b.took refl refl;
  fails = b.fails;
}
writes_fault writes first mid last NoSuchPool a b = absurd b
writes_fault writes first mid last NoMemory a b = works_both writes first mid last a b

-- calls, and then calls that end so
pub writes_after : {W X : Type 0} (writes : W → Option (List ℕ) → W → Type 0) (first mid last : W) (result : Result X ServeFault) → Works writes first mid → OnlyWrites writes mid last result → OnlyWrites writes first last result
writes_after writes first mid last (Ok x) a b = works_both writes first mid last a b
writes_after writes first mid last (Err fault) a b = writes_fault writes first mid last fault a b
