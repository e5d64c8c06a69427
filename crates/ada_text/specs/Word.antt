-- The reserved words (2.9).
use Rattle.std.specs.Prelude.{ℕ, Bool, List, [], ◌∷◌, Option, find, codes}
use Rattle.std.specs.Str.{bytes_eq}
use Rattle.ada_text.specs.declared.word.Word.{Word}
use Rattle.ada_text.specs.declared.word.Word.TheVariants.{Abort, Abs, Abstract, Accept, Access, Aliased, All, And, Array, At, Begin, Body, Case, Constant, Declare, Delay, Delta, Digits, Do, Else, Elsif, End, Entry, Exception, Exit, For, Function, Generic, Goto, If, In, Interface, Is, Limited, Loop, Mod, New, Not, Null, Of, Or, Others, Out, Overriding, Package, Pragma, Private, Procedure, Protected, Raise, Range, Record, Rem, Renames, Requeue, Return, Reverse, Select, Separate, Some, Subtype, Synchronized, Tagged, Task, Terminate, Then, «Type», Until, Use, When, While, With, Xor}

-- how a reserved word is spelled in upper case
abbrev pub spelling : Word → List ℕ
spelling Abort = codes "ABORT"
spelling Abs = codes "ABS"
spelling Abstract = codes "ABSTRACT"
spelling Accept = codes "ACCEPT"
spelling Access = codes "ACCESS"
spelling Aliased = codes "ALIASED"
spelling All = codes "ALL"
spelling And = codes "AND"
spelling Array = codes "ARRAY"
spelling At = codes "AT"
spelling Begin = codes "BEGIN"
spelling Body = codes "BODY"
spelling Case = codes "CASE"
spelling Constant = codes "CONSTANT"
spelling Declare = codes "DECLARE"
spelling Delay = codes "DELAY"
spelling Delta = codes "DELTA"
spelling Digits = codes "DIGITS"
spelling Do = codes "DO"
spelling Else = codes "ELSE"
spelling Elsif = codes "ELSIF"
spelling End = codes "END"
spelling Entry = codes "ENTRY"
spelling Exception = codes "EXCEPTION"
spelling Exit = codes "EXIT"
spelling For = codes "FOR"
spelling Function = codes "FUNCTION"
spelling Generic = codes "GENERIC"
spelling Goto = codes "GOTO"
spelling If = codes "IF"
spelling In = codes "IN"
spelling Interface = codes "INTERFACE"
spelling Is = codes "IS"
spelling Limited = codes "LIMITED"
spelling Loop = codes "LOOP"
spelling Mod = codes "MOD"
spelling New = codes "NEW"
spelling Not = codes "NOT"
spelling Null = codes "NULL"
spelling Of = codes "OF"
spelling Or = codes "OR"
spelling Others = codes "OTHERS"
spelling Out = codes "OUT"
spelling Overriding = codes "OVERRIDING"
spelling Package = codes "PACKAGE"
spelling Pragma = codes "PRAGMA"
spelling Private = codes "PRIVATE"
spelling Procedure = codes "PROCEDURE"
spelling Protected = codes "PROTECTED"
spelling Raise = codes "RAISE"
spelling Range = codes "RANGE"
spelling Record = codes "RECORD"
spelling Rem = codes "REM"
spelling Renames = codes "RENAMES"
spelling Requeue = codes "REQUEUE"
spelling Return = codes "RETURN"
spelling Reverse = codes "REVERSE"
spelling Select = codes "SELECT"
spelling Separate = codes "SEPARATE"
spelling Some = codes "SOME"
spelling Subtype = codes "SUBTYPE"
spelling Synchronized = codes "SYNCHRONIZED"
spelling Tagged = codes "TAGGED"
spelling Task = codes "TASK"
spelling Terminate = codes "TERMINATE"
spelling Then = codes "THEN"
spelling «Type» = codes "TYPE"
spelling Until = codes "UNTIL"
spelling Use = codes "USE"
spelling When = codes "WHEN"
spelling While = codes "WHILE"
spelling With = codes "WITH"
spelling Xor = codes "XOR"

-- the reserved words in the order of the alphabet
abbrev pub reserved_words : List Word
reserved_words =
    Abort ∷ Abs ∷ Abstract ∷ Accept ∷ Access ∷ Aliased ∷ All ∷ And ∷ Array ∷ At ∷
    Begin ∷ Body ∷
    Case ∷ Constant ∷
    Declare ∷ Delay ∷ Delta ∷ Digits ∷ Do ∷
    Else ∷ Elsif ∷ End ∷ Entry ∷ Exception ∷ Exit ∷
    For ∷ Function ∷
    Generic ∷ Goto ∷
    If ∷ In ∷ Interface ∷ Is ∷
    Limited ∷ Loop ∷
    Mod ∷
    New ∷ Not ∷ Null ∷
    Of ∷ Or ∷ Others ∷ Out ∷ Overriding ∷
    Package ∷ Pragma ∷ Private ∷ Procedure ∷ Protected ∷
    Raise ∷ Range ∷ Record ∷ Rem ∷ Renames ∷ Requeue ∷ Return ∷ Reverse ∷
    Select ∷ Separate ∷ Some ∷ Subtype ∷ Synchronized ∷
    Tagged ∷ Task ∷ Terminate ∷ Then ∷ «Type» ∷
    Until ∷ Use ∷
    When ∷ While ∷ With ∷
    Xor ∷
    []

-- Whether letters spell a reserved word.
abbrev pub is_spelled : List ℕ → Word → Bool
is_spelled letters word = bytes_eq letters (spelling word)

-- The reserved word with these letters, which are in upper case.
unfoldable pub reserved_word : List ℕ → Option Word
reserved_word letters = find (is_spelled letters) reserved_words
