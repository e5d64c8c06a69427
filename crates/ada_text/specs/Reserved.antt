-- The reserved words by their first letter, as the reader looks them up.
use Rattle.std.specs.Prelude.{ℕ, List, [], ◌∷◌, if◌then◌else◌, ◌==◌}
use Rattle.ada_text.specs.declared.word.Word.{Word}
use Rattle.ada_text.specs.declared.word.Word.TheVariants.{Abort, Abs, Abstract, Accept, Access, Aliased, All, And, Array, At, Begin, Body, Case, Constant, Declare, Delay, Delta, Digits, Do, Else, Elsif, End, Entry, Exception, Exit, For, Function, Generic, Goto, If, In, Interface, Is, Limited, Loop, Mod, New, Not, Null, Of, Or, Others, Out, Overriding, Package, Pragma, Private, Procedure, Protected, Raise, Range, Record, Rem, Renames, Requeue, Return, Reverse, Select, Separate, Some, Subtype, Synchronized, Tagged, Task, Terminate, Then, «Type», Until, Use, When, While, With, Xor}

-- the reserved words that begin with a letter in upper case
abbrev pub words_from : ℕ → List Word
words_from letter =
    if letter == 65 then Abort ∷ Abs ∷ Abstract ∷ Accept ∷ Access ∷ Aliased ∷ All ∷ And ∷ Array ∷ At ∷ [] else (
    if letter == 66 then Begin ∷ Body ∷ [] else (
    if letter == 67 then Case ∷ Constant ∷ [] else (
    if letter == 68 then Declare ∷ Delay ∷ Delta ∷ Digits ∷ Do ∷ [] else (
    if letter == 69 then Else ∷ Elsif ∷ End ∷ Entry ∷ Exception ∷ Exit ∷ [] else (
    if letter == 70 then For ∷ Function ∷ [] else (
    if letter == 71 then Generic ∷ Goto ∷ [] else (
    if letter == 73 then If ∷ In ∷ Interface ∷ Is ∷ [] else (
    if letter == 76 then Limited ∷ Loop ∷ [] else (
    if letter == 77 then Mod ∷ [] else (
    if letter == 78 then New ∷ Not ∷ Null ∷ [] else (
    if letter == 79 then Of ∷ Or ∷ Others ∷ Out ∷ Overriding ∷ [] else (
    if letter == 80 then Package ∷ Pragma ∷ Private ∷ Procedure ∷ Protected ∷ [] else (
    if letter == 82 then Raise ∷ Range ∷ Record ∷ Rem ∷ Renames ∷ Requeue ∷ Return ∷ Reverse ∷ [] else (
    if letter == 83 then Select ∷ Separate ∷ Some ∷ Subtype ∷ Synchronized ∷ [] else (
    if letter == 84 then Tagged ∷ Task ∷ Terminate ∷ Then ∷ «Type» ∷ [] else (
    if letter == 85 then Until ∷ Use ∷ [] else (
    if letter == 87 then When ∷ While ∷ With ∷ [] else (
    if letter == 88 then Xor ∷ [] else (
    [])))))))))))))))))))
