-- Reserved words: looking among those with the same first letter finds what looking among all finds.
use Rattle.std.proofs.Common.{◌≡◌, ℕ, ◌+◌, ◌<◌, ◌≤◌, List, [], ◌∷◌, length, get_or, drop, map, cond, true, false, Bool, ◌&&◌, eqb, Option, Some, None, find, bytes_eq, refl, ap, sym, ◌∙◌, subst}
use Rattle.std.specs.Char.{to_ascii_uppercase}
use Rattle.std.proofs.lemmas.List.{drop_more, drop_all}
use Rattle.std.proofs.lemmas.Slice.Eq.{bytes_eq-Decides}
use Rattle.ada_text.specs.declared.word.Word.{Word}
use Rattle.ada_text.specs.declared.word.Word.TheVariants.{Abort, Abs, Abstract, Accept, Access, Aliased, All, And, Array, At, Begin, Body, Case, Constant, Declare, Delay, Delta, Digits, Do, Else, Elsif, End, Entry, Exception, Exit, For, Function, Generic, Goto, If, In, Interface, Is, Limited, Loop, Mod, New, Not, Null, Of, Or, Others, Out, Overriding, Package, Pragma, Private, Procedure, Protected, Raise, Range, Record, Rem, Renames, Requeue, Return, Reverse, Select, Separate, Some, Subtype, Synchronized, Tagged, Task, Terminate, Then, «Type», Until, Use, When, While, With, Xor}
use Rattle.ada_text.specs.Reserved.{words_from}
use Rattle.ada_text.specs.Word.{spelling, reserved_words, is_spelled, reserved_word}

pub bytes_eq-drop : (text letters : List ℕ) (i : ℕ) → i < length text → i < length letters → bytes_eq (map to_ascii_uppercase (drop i text)) (drop i letters) ≡ (eqb (to_ascii_uppercase (get_or text i 0)) (get_or letters i 0) && bytes_eq (map to_ascii_uppercase (drop (i + 1) text)) (drop (i + 1) letters))
bytes_eq-drop text letters i l m = rw (drop_more text i 0 l, drop_more letters i 0 m) refl

pub bytes_eq-drop_all : (text letters : List ℕ) (i : ℕ) → length text ≤ i → length letters ≤ i → bytes_eq (map to_ascii_uppercase (drop i text)) (drop i letters) ≡ true
bytes_eq-drop_all text letters i l m = rw (drop_all i text l, drop_all i letters m) refl

pub ruleset comparing = (bytes_eq-drop, bytes_eq-drop_all)

-- what is found passes the test
pub found_passes : (letters : List ℕ) (words : List Word) (word : Word) → find (is_spelled letters) words ≡ Some word → letters ≡ spelling word
found_passes letters [] word e = cc
found_passes letters (w ∷ ws) word e = split (is_spelled letters w) refl e (λ f. found_passes letters ws word f)
  where
    split : (r : Bool) → is_spelled letters w ≡ r → cond r (Some w) (find (is_spelled letters) ws) ≡ Some word → (find (is_spelled letters) ws ≡ Some word → letters ≡ spelling word) → letters ≡ spelling word
    split true passes e later = (bytes_eq-Decides letters (spelling w)).0 passes ∙ ap spelling (let same : w ≡ word = cc in same)
    split false fails e later = later e

-- each word is found by its spelling, among all and among those with its first letter
pub among_all : (word : Word) → find (is_spelled (spelling word)) reserved_words ≡ Some word
among_all Abort = refl
among_all Abs = refl
among_all Abstract = refl
among_all Accept = refl
among_all Access = refl
among_all Aliased = refl
among_all All = refl
among_all And = refl
among_all Array = refl
among_all At = refl
among_all Begin = refl
among_all Body = refl
among_all Case = refl
among_all Constant = refl
among_all Declare = refl
among_all Delay = refl
among_all Delta = refl
among_all Digits = refl
among_all Do = refl
among_all Else = refl
among_all Elsif = refl
among_all End = refl
among_all Entry = refl
among_all Exception = refl
among_all Exit = refl
among_all For = refl
among_all Function = refl
among_all Generic = refl
among_all Goto = refl
among_all If = refl
among_all In = refl
among_all Interface = refl
among_all Is = refl
among_all Limited = refl
among_all Loop = refl
among_all Mod = refl
among_all New = refl
among_all Not = refl
among_all Null = refl
among_all Of = refl
among_all Or = refl
among_all Others = refl
among_all Out = refl
among_all Overriding = refl
among_all Package = refl
among_all Pragma = refl
among_all Private = refl
among_all Procedure = refl
among_all Protected = refl
among_all Raise = refl
among_all Range = refl
among_all Record = refl
among_all Rem = refl
among_all Renames = refl
among_all Requeue = refl
among_all Return = refl
among_all Reverse = refl
among_all Select = refl
among_all Separate = refl
among_all Some = refl
among_all Subtype = refl
among_all Synchronized = refl
among_all Tagged = refl
among_all Task = refl
among_all Terminate = refl
among_all Then = refl
among_all «Type» = refl
among_all Until = refl
among_all Use = refl
among_all When = refl
among_all While = refl
among_all With = refl
among_all Xor = refl

among_those : (word : Word) → find (is_spelled (spelling word)) (words_from (get_or (spelling word) 0 0)) ≡ Some word
among_those Abort = refl
among_those Abs = refl
among_those Abstract = refl
among_those Accept = refl
among_those Access = refl
among_those Aliased = refl
among_those All = refl
among_those And = refl
among_those Array = refl
among_those At = refl
among_those Begin = refl
among_those Body = refl
among_those Case = refl
among_those Constant = refl
among_those Declare = refl
among_those Delay = refl
among_those Delta = refl
among_those Digits = refl
among_those Do = refl
among_those Else = refl
among_those Elsif = refl
among_those End = refl
among_those Entry = refl
among_those Exception = refl
among_those Exit = refl
among_those For = refl
among_those Function = refl
among_those Generic = refl
among_those Goto = refl
among_those If = refl
among_those In = refl
among_those Interface = refl
among_those Is = refl
among_those Limited = refl
among_those Loop = refl
among_those Mod = refl
among_those New = refl
among_those Not = refl
among_those Null = refl
among_those Of = refl
among_those Or = refl
among_those Others = refl
among_those Out = refl
among_those Overriding = refl
among_those Package = refl
among_those Pragma = refl
among_those Private = refl
among_those Procedure = refl
among_those Protected = refl
among_those Raise = refl
among_those Range = refl
among_those Record = refl
among_those Rem = refl
among_those Renames = refl
among_those Requeue = refl
among_those Return = refl
among_those Reverse = refl
among_those Select = refl
among_those Separate = refl
among_those Some = refl
among_those Subtype = refl
among_those Synchronized = refl
among_those Tagged = refl
among_those Task = refl
among_those Terminate = refl
among_those Then = refl
among_those «Type» = refl
among_those Until = refl
among_those Use = refl
among_those When = refl
among_those While = refl
among_those With = refl
among_those Xor = refl

-- so both find the same
same_found : (letters : List ℕ) (a b : Option Word) → find (is_spelled letters) (words_from (get_or letters 0 0)) ≡ a → find (is_spelled letters) reserved_words ≡ b → a ≡ b
same_found letters None None p q = refl
same_found letters (Some v) b p q =
    sym (subst (λ l. find (is_spelled l) reserved_words ≡ Some v) (sym (found_passes letters (words_from (get_or letters 0 0)) v p)) (among_all v)) ∙ q
same_found letters None (Some w) p q =
    sym p ∙ subst (λ l. find (is_spelled l) (words_from (get_or l 0 0)) ≡ Some w) (sym (found_passes letters reserved_words w q)) (among_those w)

pub reserved_word-by_letter : (letters : List ℕ) → find (is_spelled letters) (words_from (get_or letters 0 0)) ≡ reserved_word letters
unfolding reserved_word
reserved_word-by_letter letters = same_found letters _ _ refl refl

pub initial-map : (text : List ℕ) → get_or (map to_ascii_uppercase text) 0 0 ≡ to_ascii_uppercase (get_or text 0 0)
initial-map [] = refl
initial-map (b ∷ bs) = refl
