-- A source has one program at most, one first fault at most, and never both.
use Rattle.std.proofs.Common.{◌≡◌, ◌≢◌, ℕ, ◌||◌, ◌&&◌, ◌==◌, Bool, true, false, List, [], Option, Some, None, Result, Ok, Err, IfOk, IfErr, IsErrAnd, arith, refl, sym, ap, subst, ◌∙◌}
use Rattle.std.specs.Prelude.{nat_lt}
use Rattle.ada_text.specs.declared.spot.Spot.{Spot}
use Rattle.ada_text.specs.declared.fault.TextFault.{TextFault}
use Rattle.ada_text.specs.declared.fault.TextFault.TheVariants as text
use Rattle.ada_text.specs.Token.{Lexeme}
use Rattle.ada_text.specs.Reading.{Spells, IsFirstFault as IsFirstTextFault}
use Rattle.ada_flow.specs.declared.rule.Rule.{Rule}
use Rattle.ada_program.specs.declared.program.Program.{Program}
use Rattle.ada_tree.specs.Statements.{UnitTree, IsTextOf}
use Rattle.ada_program.specs.ProgramForm.{ProgramForm, program_form}
use Rattle.ada_circles.specs.Circles.{HasCircle}
use Rattle.ada_deeds.specs.Implicit.{implicit_of}
use Rattle.ada_flow.specs.Flow.{Outcome, faults, goes, Holds, flow_of, program_flow, ObeysRules}
use Rattle.ada_flow.specs.Told.{breach_of, judgement, IsFirstFault as IsFirstFlowFault}
use Rattle.ada_parser.specs.declared.fault.SyntaxFault.{SyntaxFault}
use Rattle.ada_parser.specs.declared.fault.SyntaxFault.TheVariants as syntax
use Rattle.ada_parser.specs.FirstFault.{IsFirstFault as IsFirstSyntaxFault}
use Rattle.ada_operations.specs.declared.fault.OperationFault.TheVariants as operations
use Rattle.ada_operations.specs.declared.rule.OperationRule.{OperationRule}
use Rattle.ada_operations.specs.declared.rule.OperationRule.TheVariants.{FinalizeOrder, MayPropagate, FinalizeAllocates}
use Rattle.ada_operations.specs.Operations.{HasFault, IsFirstFault as IsFirstOf, rule_number}
use Rattle.ada_quiet.specs.First.{HasUnused, IsFirst as IsFirstPlace}
use Rattle.ada_front.specs.Front.{front_of}
use Rattle.ada_resolve.specs.declared.fault.NameFault.{NameFault}
use Rattle.ada_resolve.specs.declared.fault.NameFault.TheVariants as names
use Rattle.ada_resolve.specs.declared.fault.NameRule.{NameRule}
use Rattle.ada_resolve.specs.Resolution.{Told as NamesTold, broken, gives, resolution}
use Rattle.ada_rounds.specs.FirstRound.{HasRound}
use Rattle.ada_flow.specs.declared.fault.FlowFault.{FlowFault}
use Rattle.ada_flow.specs.declared.fault.FlowFault.TheVariants as flow
use Rattle.ada_effects.specs.Effects.{Implicit}
use Rattle.ada_text.specs.Exactly.{Exactly}
use Rattle.ada_verdict.specs.declared.fault.RoundFault.TheVariants as round
use Rattle.ada_verdict.specs.declared.fault.UnusedFault.{UnusedFault}
use Rattle.ada_verdict.specs.declared.fault.UnusedFault.TheVariants as unused
use Rattle.ada_verdict.specs.declared.fault.Verdict.{Verdict}
use Rattle.ada_verdict.specs.declared.fault.Verdict.TheVariants as verdict
use Rattle.ada_verdict.specs.First.{IsSourceOf, IsProgramOf, IsAccepted, IsFirstIn, IsFirst, IsFirstUnused, RefusesRightly, HasFaultOrProgram}
use Rattle.ada_verdict.specs.declared.rules.TheConstants as rules
use Rattle.ada_verdict.specs.Refusal.{Told, told, rule_text, refusal_of}

-- The laws of the crates below.
abbrev pub OneTokens : Type 0
OneTokens = (source : List ℕ) (ts us : List Lexeme) → Spells source ts → Spells source us → ts ≡ us

abbrev pub OneTree : Type 0
OneTree = (tokens : List Lexeme) (t u : UnitTree) → IsTextOf tokens t → IsTextOf tokens u → t ≡ u

abbrev pub OneTextFault : Type 0
OneTextFault = (source : List ℕ) (f g : TextFault) → IsFirstTextFault source f → IsFirstTextFault source g → f ≢ text.NoMemory → g ≢ text.NoMemory → f ≡ g

abbrev pub NoTextFault : Type 0
NoTextFault = (source : List ℕ) (ts : List Lexeme) (f : TextFault) → Spells source ts → IsFirstTextFault source f → f ≡ text.NoMemory

abbrev pub OneSyntaxFault : Type 0
OneSyntaxFault = (tokens : List Lexeme) (f g : SyntaxFault) → IsFirstSyntaxFault tokens f → IsFirstSyntaxFault tokens g → f ≢ syntax.NoMemory → g ≢ syntax.NoMemory → f ≡ g

abbrev pub NoSyntaxFault : Type 0
NoSyntaxFault = (tokens : List Lexeme) (f : SyntaxFault) (t : UnitTree) → IsFirstSyntaxFault tokens f → IsTextOf tokens t → f ≡ syntax.NoMemory

-- The first fault of the syntax of a source, and of its names.
abbrev pub IsFirstOfSyntax : List ℕ → SyntaxFault → Type 0
IsFirstOfSyntax source fault = IsFirst source (verdict.Syntax fault)

abbrev pub IsFirstOfNames : List ℕ → NameFault → Type 0
IsFirstOfNames source fault = IsFirst source (verdict.Names fault)

abbrev pub IsFirstOfEarly : List ℕ → Spot → Type 0
IsFirstOfEarly source spot = IsFirst source (verdict.EarlyRound spot)

-- what a fault of a phase tells, where it is that memory ran out
no_text : (f : TextFault) → f ≡ text.NoMemory → refusal_of (verdict.Text f) ≡ None
no_text f e = rw e refl

no_syntax : (f : SyntaxFault) → f ≡ syntax.NoMemory → refusal_of (verdict.Syntax f) ≡ None
no_syntax f e = rw e refl

-- One tree.

same_tree : OneTokens → OneTree → (source : List ℕ) (t u : UnitTree) → IsSourceOf source t → IsSourceOf source u → t ≡ u
same_tree tokens tree source t u a b =
    tree b.tokens t u (subst (λ (ts : List Lexeme). IsTextOf ts t) (tokens source a.tokens b.tokens a.spelled b.spelled) a.written) b.written

one_resolution : OneTokens → OneTree → (source : List ℕ) (t u : UnitTree) → IsSourceOf source t → IsSourceOf source u → resolution t ≡ resolution u
one_resolution tokens tree source t u a b = ap resolution (same_tree tokens tree source t u a b)

-- Of programs that are alike flow judges alike.
same_judgement : (p q : Program) → program_form p ≡ program_form q → judgement (program_flow p) ≡ judgement (program_flow q)
same_judgement p q e = ap (λ (form : ProgramForm). judgement (flow_of (implicit_of form) form)) e

-- A judgement that no rule is broken.
obeying : (o : Outcome) → judgement o ≡ Ok tt → (normal raising : Option Holds) × (o ≡ goes normal raising)
obeying (faults spot rule) e = cc
obeying (goes normal raising) e = (normal, raising, refl)

-- What flow answers, where it is asked with what the implicit calls of the program may do.
abbrev Answers : Program → Implicit → Result (Unit {0}) FlowFault → Type 0
Answers p implicit r = Exactly (λ _. tt) breach_of r (judgement (flow_of implicit (program_form p)))

pub obeyed : (p : Program) (implicit : Implicit) (r : Result (Unit {0}) FlowFault) → implicit ≡ implicit_of (program_form p) → Answers p implicit r → IfOk r (λ _. ObeysRules p)
obeyed p implicit (Ok x) known told = obeying (program_flow p) (subst (λ (i : Implicit). judgement (flow_of i (program_form p)) ≡ Ok tt) known told)
obeyed p implicit (Err fault) known told = tt

pub refused_by_flow : (p : Program) (implicit : Implicit) (r : Result (Unit {0}) FlowFault) → implicit ≡ implicit_of (program_form p) → Answers p implicit r
    → IfErr r (λ fault. IsFirstFlowFault p fault)
refused_by_flow p implicit (Ok x) known told = tt
refused_by_flow p implicit (Err fault) known told = subst (λ (i : Implicit). Answers p i (Err fault)) known told

pub gives_one : (p q : ProgramForm) → gives p ≡ gives q → p ≡ q
gives_one p q e = cc

pub gives_none : {X : Type 0} (spot : Spot) (rule : NameRule) (p : ProgramForm) → broken spot rule ≡ gives p → X
gives_none spot rule p e = absurd cc

abbrev pub the_broken : Spot → NameRule → NamesTold ProgramForm
the_broken spot rule = broken spot rule

broken_one : (spot other : Spot) (rule another : NameRule) → the_broken spot rule ≡ the_broken other another →
    refusal_of (verdict.Names (names.Broken spot rule)) ≡ refusal_of (verdict.Names (names.Broken other another))
broken_one spot other rule another e =
    let s : spot ≡ other = cc in
    let r : rule ≡ another = cc in
    rw (s, r) refl

abbrev pub the_breach : Spot → Rule → Result (Unit {0}) (Spot × Rule)
the_breach spot rule = Err (spot, rule)

-- what is printed of a judgement
abbrev pub refusal_by : Result (Unit {0}) (Spot × Rule) → Option Told
refusal_by (Ok x) = None
refusal_by (Err breach) = told breach.0 (rule_text breach.1)

breach_one : (spot other : Spot) (rule another : Rule) → the_breach spot rule ≡ the_breach other another →
    refusal_of (verdict.Flow (flow.Broken spot rule)) ≡ refusal_of (verdict.Flow (flow.Broken other another))
breach_one spot other rule another e = ap refusal_by e

obeys_none : {X : Type 0} (p : Program) (spot : Spot) (rule : Rule) → judgement (program_flow p) ≡ the_breach spot rule → ObeysRules p → X
obeys_none p spot rule e obeys =
    let fine : judgement (program_flow p) ≡ Ok tt = ap judgement obeys.2 in
    absurd cc

-- One program.

pub one_program : OneTokens → OneTree → (source : List ℕ) (p q : Program) → IsProgramOf source p → IsProgramOf source q → program_form p ≡ program_form q
one_program tokens tree source p q a b =
    gives_one (program_form p) (program_form q) (sym a.resolved ∙ one_resolution tokens tree source a.tree b.tree a.text b.text ∙ b.resolved)

-- Where there is a tree, the syntax has no fault.
no_fault : OneTokens → NoSyntaxFault → (source : List ℕ) (t : UnitTree) (f : SyntaxFault) → IsSourceOf source t → IsFirstOfSyntax source f → f ≡ syntax.NoMemory
no_fault tokens none source t f a b =
    none b.0 f t b.2 (subst (λ (ts : List Lexeme). IsTextOf ts t) (tokens source a.tokens b.0 a.spelled b.1) a.written)

-- Where there is a program, the names have no fault.
no_names : {X : Type 0} → OneTokens → OneTree → (source : List ℕ) (spot : Spot) (rule : NameRule) (p : Program) → IsFirstOfNames source (names.Broken spot rule) → IsProgramOf source p → X
no_names tokens tree source spot rule p a b =
    gives_none spot rule (program_form p) (sym a.2 ∙ one_resolution tokens tree source a.0 b.tree a.1 b.text ∙ b.resolved)

-- So there is no fault of names before which an operation calls itself.
no_early_round : {X : Type 0} → OneTokens → OneTree → (source : List ℕ) (spot : Spot) (p : Program) → IsFirstOfEarly source spot → IsProgramOf source p → X
no_early_round tokens tree source spot p a b =
    gives_none a.2.0 a.2.1 (program_form p) (sym a.2.2 ∙ one_resolution tokens tree source a.0 b.tree a.1 b.text ∙ b.resolved)

-- Which verdicts come of phases behind the program of a source.
abbrev is_late : Verdict → Bool
is_late (verdict.Text f) = false
is_late (verdict.Syntax f) = false
is_late (verdict.Names f) = false
is_late (verdict.EarlyRound spot) = false
is_late (verdict.Rounds f) = true
is_late (verdict.Operations f) = true
is_late (verdict.Unused f) = true
is_late (verdict.Flow f) = true

-- Where there is a program, no earlier phase has a fault.
no_early : OneTokens → NoTextFault → OneTree → NoSyntaxFault → (source : List ℕ) (v : Verdict) → is_late v ≡ false → IsFirst source v → (p : Program) → IsProgramOf source p → refusal_of v ≡ None
no_early tokens text tree syntax source (verdict.Text f) early b p a = no_text f (text source a.text.tokens f a.text.spelled b)
no_early tokens text tree syntax source (verdict.Syntax f) early b p a = no_syntax f (no_fault tokens syntax source a.tree f a.text b)
no_early tokens text tree syntax source (verdict.Names (names.Broken spot rule)) early b p a = no_names tokens tree source spot rule p b a
no_early tokens text tree syntax source (verdict.Names names.NoMemory) early b p a = refl
no_early tokens text tree syntax source (verdict.EarlyRound spot) early b p a = no_early_round tokens tree source spot p b a
no_early tokens text tree syntax source (verdict.Rounds f) early b p a = absurd (cc early)
no_early tokens text tree syntax source (verdict.Operations f) early b p a = absurd (cc early)
no_early tokens text tree syntax source (verdict.Unused f) early b p a = absurd (cc early)
no_early tokens text tree syntax source (verdict.Flow f) early b p a = absurd (cc early)

-- What is first unused obeys the rules of flow.
unused_obeys : (p : Program) (f : UnusedFault) → IsFirstUnused p f → ObeysRules p
unused_obeys p (unused.Operation spot) first = first.0
unused_obeys p (unused.Circle spot) first = first.0
unused_obeys p unused.NoMemory first = first

-- A later phase begins with a program.
late_program : (source : List ℕ) (v : Verdict) → is_late v ≡ true → IsFirst source v → (p : Program) × IsProgramOf source p
late_program source (verdict.Text f) late a = absurd (cc late)
late_program source (verdict.Syntax f) late a = absurd (cc late)
late_program source (verdict.Names f) late a = absurd (cc late)
late_program source (verdict.EarlyRound spot) late a = absurd (cc late)
late_program source (verdict.Rounds f) late a = (a.0, a.1)
late_program source (verdict.Operations f) late a = (a.0, a.1)
late_program source (verdict.Unused f) late a = (a.0, a.1)
late_program source (verdict.Flow f) late a = (a.0, a.1)

-- Operations that are fine have no fault.
no_broken : {X : Type 0} (p q : ProgramForm) (spot : Spot) (rule : OperationRule) → p ≡ q → IsFirstOf p (Some (spot, rule)) → IsFirstOf q None → X
no_broken p q spot rule same breaks fine = absurd (fine (spot, rule) (subst (λ (form : ProgramForm). HasFault form (spot, rule)) same breaks.0))

-- Where there is a first place, it is not so that there is none.
no_place : {X : Type 0} (places : ProgramForm → Spot → Type 0) (p q : ProgramForm) (spot : Spot) → p ≡ q → IsFirstPlace (places p) (Some spot) → IsFirstPlace (places q) None → X
no_place places p q spot same there fine = absurd (fine spot (subst (λ (form : ProgramForm). places form spot) same there.0))

neither : (a b : Bool) → (a || b) ≡ false → (a ≡ false) × (b ≡ false)
neither false b h = (refl, h)
neither true b h = absurd (cc h)

same_number : (a b : ℕ) → nat_lt a b ≡ false → nat_lt b a ≡ false → a ≡ b
same_number a b h g = grind (arith, h, g)

same_then : (a b : ℕ) (x : Bool) → a ≡ b → ((a == b) && x) ≡ false → x ≡ false
same_then a b true e h = grind (arith, e, h)
same_then a b false e h = refl

-- Places that do not stand before each other are one place.
same_place : (l m c d : ℕ) → (nat_lt l m || ((l == m) && nat_lt c d)) ≡ false → (nat_lt m l || ((m == l) && nat_lt d c)) ≡ false → (l ≡ m) × (c ≡ d)
same_place l m c d before behind =
    let one = neither (nat_lt l m) ((l == m) && nat_lt c d) before in
    let two = neither (nat_lt m l) ((m == l) && nat_lt d c) behind in
    let line = same_number l m one.0 two.0 in
    (line, same_number c d (same_then l m (nat_lt c d) line one.1) (same_then m l (nat_lt d c) (sym line) two.1))

-- So it is with rules at places.
same_rule : (l m c d r s : ℕ) → (nat_lt l m || ((l == m) && (nat_lt c d || ((c == d) && nat_lt r s)))) ≡ false
    → (nat_lt m l || ((m == l) && (nat_lt d c || ((d == c) && nat_lt s r)))) ≡ false → (l ≡ m) × (c ≡ d) × (r ≡ s)
same_rule l m c d r s before behind =
    let one = neither (nat_lt l m) ((l == m) && (nat_lt c d || ((c == d) && nat_lt r s))) before in
    let two = neither (nat_lt m l) ((m == l) && (nat_lt d c || ((d == c) && nat_lt s r))) behind in
    let line = same_number l m one.0 two.0 in
    let column = same_place c d r s
    (same_then l m (nat_lt c d || ((c == d) && nat_lt r s)) line one.1) (same_then m l (nat_lt d c || ((d == c) && nat_lt s r)) (sym line) two.1) in
    (line, column.0, column.1)

-- A rule is known by its number.
one_rule : (rule another : OperationRule) → rule_number rule ≡ rule_number another → rule ≡ another
one_rule FinalizeOrder FinalizeOrder e = refl
one_rule MayPropagate MayPropagate e = refl
one_rule FinalizeAllocates FinalizeAllocates e = refl
one_rule FinalizeOrder MayPropagate e = absurd (omega (arith, e))
one_rule FinalizeOrder FinalizeAllocates e = absurd (omega (arith, e))
one_rule MayPropagate FinalizeOrder e = absurd (omega (arith, e))
one_rule MayPropagate FinalizeAllocates e = absurd (omega (arith, e))
one_rule FinalizeAllocates FinalizeOrder e = absurd (omega (arith, e))
one_rule FinalizeAllocates MayPropagate e = absurd (omega (arith, e))

-- One first fault of operations.
one_operation : (p q : ProgramForm) (spot other : Spot) (rule another : OperationRule) → p ≡ q → IsFirstOf p (Some (spot, rule)) → IsFirstOf q (Some (other, another))
    → refusal_of (verdict.Operations (operations.Broken spot rule)) ≡ refusal_of (verdict.Operations (operations.Broken other another))
one_operation p q spot other rule another same a b =
    let moved : HasFault p (other, another) = subst (λ (form : ProgramForm). HasFault form (other, another)) (sym same) b.0 in
    let back : HasFault q (spot, rule) = subst (λ (form : ProgramForm). HasFault form (spot, rule)) same a.0 in
    let one = same_rule other.line spot.line other.column spot.column (rule_number another) (rule_number rule) (a.1 (other, another) moved) (b.1 (spot, rule) back) in
    let is = one_rule another rule one.2 in
    rw (one.0, one.1, is) refl

-- One first place.
one_place : (places : ProgramForm → Spot → Type 0) (p q : ProgramForm) (spot other : Spot) → p ≡ q → IsFirstPlace (places p) (Some spot)
    → IsFirstPlace (places q) (Some other) → (text : List ℕ) → told spot text ≡ told other text
one_place places p q spot other same a b text =
    let moved : places p other = subst (λ (form : ProgramForm). places form other) (sym same) b.0 in
    let back : places q spot = subst (λ (form : ProgramForm). places form spot) same a.0 in
    let one = same_place other.line spot.line other.column spot.column (a.1 other moved) (b.1 spot back) in
    rw (one.0, one.1) refl

-- Where the rules are obeyed, there is no fault.
pub no_first : OneTokens → NoTextFault → OneTree → NoSyntaxFault → (source : List ℕ) (v : Verdict) → IsFirst source v → (p : Program) → IsAccepted source p → refusal_of v ≡ None
no_first tokens text tree syntax source (verdict.Text f) b p a = no_early tokens text tree syntax source (verdict.Text f) refl b p a.0
no_first tokens text tree syntax source (verdict.Syntax f) b p a = no_early tokens text tree syntax source (verdict.Syntax f) refl b p a.0
no_first tokens text tree syntax source (verdict.Names f) b p a = no_early tokens text tree syntax source (verdict.Names f) refl b p a.0
no_first tokens text tree syntax source (verdict.EarlyRound spot) b p a = no_early tokens text tree syntax source (verdict.EarlyRound spot) refl b p a.0
no_first tokens text tree syntax source (verdict.Rounds (round.CallsItself spot)) b p a =
    no_place HasRound (program_form b.0) (program_form p) spot (one_program tokens tree source b.0 p b.1 a.0) b.2 a.1.0
no_first tokens text tree syntax source (verdict.Rounds round.NoMemory) b p a = refl
no_first tokens text tree syntax source (verdict.Operations (operations.Broken spot rule)) b p a =
    no_broken (program_form b.0) (program_form p) spot rule (one_program tokens tree source b.0 p b.1 a.0) b.2.1 a.1.1
no_first tokens text tree syntax source (verdict.Operations operations.NoMemory) b p a = refl
no_first tokens text tree syntax source (verdict.Unused (unused.Operation spot)) b p a =
    no_place HasUnused (program_form b.0) (program_form p) spot (one_program tokens tree source b.0 p b.1 a.0) b.2.2.1 a.1.3.0
no_first tokens text tree syntax source (verdict.Unused (unused.Circle spot)) b p a =
    no_place HasCircle (program_form b.0) (program_form p) spot (one_program tokens tree source b.0 p b.1 a.0) b.2.2.2 a.1.3.1
no_first tokens text tree syntax source (verdict.Unused unused.NoMemory) b p a = refl
no_first tokens text tree syntax source (verdict.Flow (flow.Broken spot rule)) b p a =
    obeys_none p spot rule (same_judgement p b.0 (one_program tokens tree source p b.0 a.0 b.1) ∙ b.2.2) a.1.2
no_first tokens text tree syntax source (verdict.Flow flow.NoMemory) b p a = refl

-- Before a fault of the names an operation calls itself, or none does.

-- Two faults of one tree stand at one place.
same_fault : (t u : UnitTree) (spot other : Spot) (rule another : NameRule) → t ≡ u → resolution t ≡ the_broken spot rule → resolution u ≡ the_broken other another → spot ≡ other
same_fault t u spot other rule another same a b =
    let e : the_broken spot rule ≡ the_broken other another = sym a ∙ ap resolution same ∙ b in
    cc e

-- What stands before them is one tree.
same_front : (t u : UnitTree) (spot other : Spot) → t ≡ u → spot ≡ other → resolution (front_of spot t) ≡ resolution (front_of other u)
same_front t u spot other same there = ap (λ (s : Spot). resolution (front_of s t)) there ∙ ap (λ (x : UnitTree). resolution (front_of other x)) same

-- So it is not both.
names_or_round : {X : Type 0} → OneTokens → OneTree → (source : List ℕ) (spot early : Spot) (rule : NameRule) → IsFirstOfNames source (names.Broken spot rule)
    → IsFirstOfEarly source early → X
names_or_round tokens tree source spot early rule a b =
    let same : a.0 ≡ b.0 = same_tree tokens tree source a.0 b.0 a.1 b.1 in
    let there : spot ≡ b.2.0 = same_fault a.0 b.0 spot b.2.0 rule b.2.1 same a.2 b.2.2 in
    let fine : IsFirstPlace (HasRound b.2.3.0) None = a.3 b.2.3.0 (same_front a.0 b.0 spot b.2.0 same there ∙ b.2.3.1) in
    no_place HasRound b.2.3.0 b.2.3.0 early refl b.2.3.2 fine

-- And it is one operation.
one_early_round : OneTokens → OneTree → (source : List ℕ) (spot other : Spot) → IsFirstOfEarly source spot → IsFirstOfEarly source other
    → refusal_of (verdict.EarlyRound spot) ≡ refusal_of (verdict.EarlyRound other)
one_early_round tokens tree source spot other a b =
    let same : a.0 ≡ b.0 = same_tree tokens tree source a.0 b.0 a.1 b.1 in
    let there : a.2.0 ≡ b.2.0 = same_fault a.0 b.0 a.2.0 b.2.0 a.2.1 b.2.1 same a.2.2 b.2.2 in
    let form : a.2.3.0 ≡ b.2.3.0 = gives_one a.2.3.0 b.2.3.0 (sym a.2.3.1 ∙ same_front a.0 b.0 a.2.0 b.2.0 same there ∙ b.2.3.1) in
    one_place HasRound a.2.3.0 b.2.3.0 spot other form a.2.3.2 b.2.3.2 rules.NOT_IN_PROFILE.now

-- One first fault: what each phase's fault says of the later phases.

text_first : {X : Type 0} → NoTextFault → (source : List ℕ) (ts : List Lexeme) (f : TextFault) → Spells source ts → IsFirstTextFault source f → refusal_of (verdict.Text f) ≢ None → X
text_first text source ts f s a n = absurd (n (no_text f (text source ts f s a)))

syntax_first : {X : Type 0} → OneTokens → NoSyntaxFault → (source : List ℕ) (t : UnitTree) (f : SyntaxFault) → IsSourceOf source t → IsFirstOfSyntax source f → refusal_of (verdict.Syntax f) ≢ None → X
syntax_first tokens syntax source t f a b n = absurd (n (no_syntax f (no_fault tokens syntax source t f a b)))

-- Two of them tell one.
abbrev TellOne : Verdict → Verdict → Type 0
TellOne v w = refusal_of v ≢ None → refusal_of w ≢ None → refusal_of v ≡ refusal_of w

-- Up to the program.
early_one : OneTokens → OneTextFault → NoTextFault → OneTree → OneSyntaxFault → NoSyntaxFault → (source : List ℕ) (v w : Verdict) → is_late v ≡ false → is_late w ≡ false → IsFirst source v → IsFirst source w → TellOne v w
early_one tokens text no_text_fault tree syntax no_syntax_fault source (verdict.Text f) (verdict.Text g) x y a b n m =
    ap (λ (h : TextFault). refusal_of (verdict.Text h)) (text source f g a b (λ e. n (no_text f e)) (λ e. m (no_text g e)))
early_one tokens text no_text_fault tree syntax no_syntax_fault source (verdict.Text f) (verdict.Syntax g) x y a b n m = text_first no_text_fault source b.0 f b.1 a n
early_one tokens text no_text_fault tree syntax no_syntax_fault source (verdict.Text f) (verdict.Names (names.Broken spot rule)) x y a b n m = text_first no_text_fault source b.1.tokens f b.1.spelled a n
early_one tokens text no_text_fault tree syntax no_syntax_fault source (verdict.Syntax f) (verdict.Text g) x y a b n m = text_first no_text_fault source a.0 g a.1 b m
early_one tokens text no_text_fault tree syntax no_syntax_fault source (verdict.Syntax f) (verdict.Syntax g) x y a b n m =
    ap (λ (h : SyntaxFault). refusal_of (verdict.Syntax h)) (syntax b.0 f g (subst (λ (ts : List Lexeme). IsFirstSyntaxFault ts f) (tokens source a.0 b.0 a.1 b.1) a.2) b.2 (λ e. n (no_syntax f e)) (λ e. m (no_syntax g e)))
early_one tokens text no_text_fault tree syntax no_syntax_fault source (verdict.Syntax f) (verdict.Names (names.Broken spot rule)) x y a b n m = syntax_first tokens no_syntax_fault source b.0 f b.1 a n
early_one tokens text no_text_fault tree syntax no_syntax_fault source (verdict.Names (names.Broken spot rule)) (verdict.Text g) x y a b n m = text_first no_text_fault source a.1.tokens g a.1.spelled b m
early_one tokens text no_text_fault tree syntax no_syntax_fault source (verdict.Names (names.Broken spot rule)) (verdict.Syntax g) x y a b n m = syntax_first tokens no_syntax_fault source a.0 g a.1 b m
early_one tokens text no_text_fault tree syntax no_syntax_fault source (verdict.Names (names.Broken spot rule)) (verdict.Names (names.Broken other another)) x y a b n m =
    broken_one spot other rule another (sym a.2 ∙ one_resolution tokens tree source a.0 b.0 a.1 b.1 ∙ b.2)
early_one tokens text no_text_fault tree syntax no_syntax_fault source (verdict.Text f) (verdict.EarlyRound spot) x y a b n m = text_first no_text_fault source b.1.tokens f b.1.spelled a n
early_one tokens text no_text_fault tree syntax no_syntax_fault source (verdict.Syntax f) (verdict.EarlyRound spot) x y a b n m = syntax_first tokens no_syntax_fault source b.0 f b.1 a n
early_one tokens text no_text_fault tree syntax no_syntax_fault source (verdict.Names (names.Broken spot rule)) (verdict.EarlyRound other) x y a b n m = names_or_round tokens tree source spot other rule a b
early_one tokens text no_text_fault tree syntax no_syntax_fault source (verdict.EarlyRound spot) (verdict.Text g) x y a b n m = text_first no_text_fault source a.1.tokens g a.1.spelled b m
early_one tokens text no_text_fault tree syntax no_syntax_fault source (verdict.EarlyRound spot) (verdict.Syntax g) x y a b n m = syntax_first tokens no_syntax_fault source a.0 g a.1 b m
early_one tokens text no_text_fault tree syntax no_syntax_fault source (verdict.EarlyRound spot) (verdict.Names (names.Broken other rule)) x y a b n m = names_or_round tokens tree source other spot rule b a
early_one tokens text no_text_fault tree syntax no_syntax_fault source (verdict.EarlyRound spot) (verdict.EarlyRound other) x y a b n m = one_early_round tokens tree source spot other a b
early_one tokens text no_text_fault tree syntax no_syntax_fault source v (verdict.Names names.NoMemory) x y a b n m = absurd (m refl)
early_one tokens text no_text_fault tree syntax no_syntax_fault source (verdict.Names names.NoMemory) w x y a b n m = absurd (n refl)
early_one tokens text no_text_fault tree syntax no_syntax_fault source (verdict.Rounds f) w x y a b n m = absurd (cc x)
early_one tokens text no_text_fault tree syntax no_syntax_fault source (verdict.Operations f) w x y a b n m = absurd (cc x)
early_one tokens text no_text_fault tree syntax no_syntax_fault source (verdict.Unused f) w x y a b n m = absurd (cc x)
early_one tokens text no_text_fault tree syntax no_syntax_fault source (verdict.Flow f) w x y a b n m = absurd (cc x)
early_one tokens text no_text_fault tree syntax no_syntax_fault source v (verdict.Rounds f) x y a b n m = absurd (cc y)
early_one tokens text no_text_fault tree syntax no_syntax_fault source v (verdict.Operations f) x y a b n m = absurd (cc y)
early_one tokens text no_text_fault tree syntax no_syntax_fault source v (verdict.Unused f) x y a b n m = absurd (cc y)
early_one tokens text no_text_fault tree syntax no_syntax_fault source v (verdict.Flow f) x y a b n m = absurd (cc y)

-- Behind it, of two programs with one form.
late_one : OneTokens → OneTree → (source : List ℕ) (v w : Verdict) → is_late v ≡ true → is_late w ≡ true → IsFirst source v → IsFirst source w → TellOne v w
late_one tokens tree source (verdict.Rounds (round.CallsItself spot)) (verdict.Rounds (round.CallsItself other)) x y a b n m =
    one_place HasRound (program_form a.0) (program_form b.0) spot other (one_program tokens tree source a.0 b.0 a.1 b.1) a.2 b.2 rules.NOT_IN_PROFILE.now
late_one tokens tree source (verdict.Rounds (round.CallsItself spot)) (verdict.Operations g) x y a b n m =
    no_place HasRound (program_form a.0) (program_form b.0) spot (one_program tokens tree source a.0 b.0 a.1 b.1) a.2 b.2.0
late_one tokens tree source (verdict.Operations f) (verdict.Rounds (round.CallsItself spot)) x y a b n m =
    no_place HasRound (program_form b.0) (program_form a.0) spot (one_program tokens tree source b.0 a.0 b.1 a.1) b.2 a.2.0
late_one tokens tree source (verdict.Rounds (round.CallsItself spot)) (verdict.Unused g) x y a b n m =
    no_place HasRound (program_form a.0) (program_form b.0) spot (one_program tokens tree source a.0 b.0 a.1 b.1) a.2 b.2.0
late_one tokens tree source (verdict.Unused f) (verdict.Rounds (round.CallsItself spot)) x y a b n m =
    no_place HasRound (program_form b.0) (program_form a.0) spot (one_program tokens tree source b.0 a.0 b.1 a.1) b.2 a.2.0
late_one tokens tree source (verdict.Rounds (round.CallsItself spot)) (verdict.Flow g) x y a b n m =
    no_place HasRound (program_form a.0) (program_form b.0) spot (one_program tokens tree source a.0 b.0 a.1 b.1) a.2 b.2.0
late_one tokens tree source (verdict.Flow f) (verdict.Rounds (round.CallsItself spot)) x y a b n m =
    no_place HasRound (program_form b.0) (program_form a.0) spot (one_program tokens tree source b.0 a.0 b.1 a.1) b.2 a.2.0
late_one tokens tree source (verdict.Operations (operations.Broken spot rule)) (verdict.Operations (operations.Broken other another)) x y a b n m =
    one_operation (program_form a.0) (program_form b.0) spot other rule another (one_program tokens tree source a.0 b.0 a.1 b.1) a.2.1 b.2.1
late_one tokens tree source (verdict.Operations (operations.Broken spot rule)) (verdict.Unused g) x y a b n m =
    no_broken (program_form a.0) (program_form b.0) spot rule (one_program tokens tree source a.0 b.0 a.1 b.1) a.2.1 b.2.1
late_one tokens tree source (verdict.Operations (operations.Broken spot rule)) (verdict.Flow g) x y a b n m =
    no_broken (program_form a.0) (program_form b.0) spot rule (one_program tokens tree source a.0 b.0 a.1 b.1) a.2.1 b.2.1
late_one tokens tree source (verdict.Unused f) (verdict.Operations (operations.Broken spot rule)) x y a b n m =
    no_broken (program_form b.0) (program_form a.0) spot rule (one_program tokens tree source b.0 a.0 b.1 a.1) b.2.1 a.2.1
late_one tokens tree source (verdict.Unused (unused.Operation spot)) (verdict.Unused (unused.Operation other)) x y a b n m =
    one_place HasUnused (program_form a.0) (program_form b.0) spot other (one_program tokens tree source a.0 b.0 a.1 b.1) a.2.2.1 b.2.2.1 rules.NOT_IN_PROFILE.now
late_one tokens tree source (verdict.Unused (unused.Operation spot)) (verdict.Unused (unused.Circle other)) x y a b n m =
    no_place HasUnused (program_form a.0) (program_form b.0) spot (one_program tokens tree source a.0 b.0 a.1 b.1) a.2.2.1 b.2.2.1
late_one tokens tree source (verdict.Unused (unused.Circle other)) (verdict.Unused (unused.Operation spot)) x y a b n m =
    no_place HasUnused (program_form b.0) (program_form a.0) spot (one_program tokens tree source b.0 a.0 b.1 a.1) b.2.2.1 a.2.2.1
late_one tokens tree source (verdict.Unused (unused.Circle spot)) (verdict.Unused (unused.Circle other)) x y a b n m =
    one_place HasCircle (program_form a.0) (program_form b.0) spot other (one_program tokens tree source a.0 b.0 a.1 b.1) a.2.2.2 b.2.2.2
    rules.NOT_IN_PROFILE.now
late_one tokens tree source (verdict.Unused f) (verdict.Flow (flow.Broken other rule)) x y a b n m =
    obeys_none a.0 other rule (same_judgement a.0 b.0 (one_program tokens tree source a.0 b.0 a.1 b.1) ∙ b.2.2) (unused_obeys a.0 f a.2.2)
late_one tokens tree source (verdict.Flow f) (verdict.Operations (operations.Broken spot rule)) x y a b n m =
    no_broken (program_form b.0) (program_form a.0) spot rule (one_program tokens tree source b.0 a.0 b.1 a.1) b.2.1 a.2.1
late_one tokens tree source (verdict.Flow (flow.Broken other rule)) (verdict.Unused g) x y a b n m =
    obeys_none b.0 other rule (same_judgement b.0 a.0 (one_program tokens tree source b.0 a.0 b.1 a.1) ∙ a.2.2) (unused_obeys b.0 g b.2.2)
late_one tokens tree source (verdict.Flow (flow.Broken spot rule)) (verdict.Flow (flow.Broken other another)) x y a b n m =
    breach_one spot other rule another (sym a.2.2 ∙ same_judgement a.0 b.0 (one_program tokens tree source a.0 b.0 a.1 b.1) ∙ b.2.2)
late_one tokens tree source v (verdict.Rounds round.NoMemory) x y a b n m = absurd (m refl)
late_one tokens tree source (verdict.Rounds round.NoMemory) w x y a b n m = absurd (n refl)
late_one tokens tree source v (verdict.Operations operations.NoMemory) x y a b n m = absurd (m refl)
late_one tokens tree source (verdict.Operations operations.NoMemory) w x y a b n m = absurd (n refl)
late_one tokens tree source v (verdict.Unused unused.NoMemory) x y a b n m = absurd (m refl)
late_one tokens tree source (verdict.Unused unused.NoMemory) w x y a b n m = absurd (n refl)
late_one tokens tree source v (verdict.Flow flow.NoMemory) x y a b n m = absurd (m refl)
late_one tokens tree source (verdict.Flow flow.NoMemory) w x y a b n m = absurd (n refl)
late_one tokens tree source (verdict.Text f) w x y a b n m = absurd (cc x)
late_one tokens tree source (verdict.Syntax f) w x y a b n m = absurd (cc x)
late_one tokens tree source (verdict.Names f) w x y a b n m = absurd (cc x)
late_one tokens tree source (verdict.EarlyRound spot) w x y a b n m = absurd (cc x)
late_one tokens tree source v (verdict.Text f) x y a b n m = absurd (cc y)
late_one tokens tree source v (verdict.Syntax f) x y a b n m = absurd (cc y)
late_one tokens tree source v (verdict.Names f) x y a b n m = absurd (cc y)
late_one tokens tree source v (verdict.EarlyRound spot) x y a b n m = absurd (cc y)

pub one_first : OneTokens → OneTextFault → NoTextFault → OneTree → OneSyntaxFault → NoSyntaxFault → (source : List ℕ) (v w : Verdict) → IsFirst source v → IsFirst source w → TellOne v w
one_first tokens text no_text_fault tree syntax no_syntax_fault source v w a b n m = go (is_late v) (is_late w) refl refl
  where
    go : (x y : Bool) → is_late v ≡ x → is_late w ≡ y → refusal_of v ≡ refusal_of w
    go false false early other = early_one tokens text no_text_fault tree syntax no_syntax_fault source v w early other a b n m
    go false true early late = let p = late_program source w late b in absurd (n (no_early tokens no_text_fault tree no_syntax_fault source v early a p.0 p.1))
    go true false late early = let p = late_program source v late a in absurd (m (no_early tokens no_text_fault tree no_syntax_fault source w early b p.0 p.1))
    go true true late other = late_one tokens tree source v w late other a b n m

-- The first fault of the program of a source is the source's.
pub program_first : (source : List ℕ) (p : Program) (v : Verdict) → IsProgramOf source p → IsFirstIn p v → IsFirst source v
program_first source p (verdict.Text f) meant first = absurd first
program_first source p (verdict.Syntax f) meant first = absurd first
program_first source p (verdict.Names f) meant first = absurd first
program_first source p (verdict.EarlyRound spot) meant first = absurd first
program_first source p (verdict.Rounds f) meant first = (p, meant, first)
program_first source p (verdict.Operations f) meant first = (p, meant, first)
program_first source p (verdict.Unused f) meant first = (p, meant, first)
program_first source p (verdict.Flow f) meant first = (p, meant, first)

-- A fault that is passed on is the first one of the source where it was the first one of its phase.
pub first_told : {A : Type 0} (source : List ℕ) (v : Verdict) (r : Result A Verdict) → IsFirst source v → IsErrAnd r (λ w. w ≡ v) → IfErr r (λ w. IsFirst source w)
first_told source v (Ok x) first e = tt
first_told source v (Err w) first e = subst (λ (u : Verdict). IsFirst source u) (sym e) first

-- What is refused is nothing that could be accepted.
pub refused_rightly : {A : Type 0} (source : List ℕ) (r : Result A Verdict) → HasFaultOrProgram source → IfErr r (λ v. IsFirst source v) → IfErr r (λ v. RefusesRightly source v)
refused_rightly source (Ok x) law first = tt
refused_rightly source (Err v) law first = law v first
