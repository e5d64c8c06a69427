-- What was given on the way, where something is given at the end.

use Rattle.std.proofs.Common.{◌≡◌, ◌∙◌, ℕ, Bool, true, false, cond, List, length, refl, sym, ap}
use Rattle.std.specs.Prelude.{Option, Some, None, bytes_eq}
use Rattle.std.proofs.lemmas.Slice.Eq.{bytes_eq-Decides}
use Rattle.ada_text.specs.declared.spot.Spot.{Spot}
use Rattle.ada_program.specs.Form.{ExpressionForm, StmtForm, chooses, encloses, StmtsForm, a_stmt, BranchesForm, HandlersForm}
use Rattle.ada_program.specs.Form as form
use Rattle.ada_program.specs.declared.program.Choice.{Choice}
use Rattle.ada_tree.specs.Declarations.{ChoiceTree, HeadTree}
use Rattle.ada_tree.specs.Names.{Ident}
use Rattle.ada_resolve.specs.declared.fault.NameRule.{NameRule}
use Rattle.ada_resolve.specs.declared.fault.NameRule.TheVariants.{UnknownName}
use Rattle.ada_resolve.specs.Procedures.{behind_head, body_ended, body_head_remark}
use Rattle.ada_resolve.specs.Reading.{IsEndName}
use Rattle.ada_tree.specs.Expressions.{ExpressionTree}
use Rattle.ada_tree.specs.Statements.{DeclarationTree, body_declaration, DeclarationsTree, a_declaration, SchemeTree, endless, while_scheme, for_scheme, StatementTree, if_statement, loop_statement, block, declare_block, StatementsTree, a_statement, BranchesTree, a_branch, HandlersTree, a_handler, SequenceTree, a_sequence, begin_of}
use Rattle.ada_resolve.specs.declared.notes.Notes.{Notes}
use Rattle.ada_resolve.specs.Exceptions.{choices_meant, choices_remark}
use Rattle.ada_resolve.specs.Known.{Known, with_part, without_part}
use Rattle.ada_resolve.specs.Objects.{after_types}
use Rattle.ada_resolve.specs.Remark.{node, ◌also◌, noted}
use Rattle.ada_resolve.specs.Resolution.{Told, broken, gives, and_then, settled, At, declarations_told, begin_remark, at_begin, made_into, knowing, node_told, condition_told, LoopHead, on_condition, over_range, range_remark, with_parameter, head_told, loop_of, behind_loop, ended_loop, ended_block, body_remark, simple_told, choices_told, Others, statement_told, sequence_told, SequenceForm, block_of, known_at, declaration_remark, declaration_known, single_told, declaration_told, body_head_told, same_name, ended_body, statements_told, branches_told, handlers_told}
use Rattle.ada_resolve.specs.Spots.{end_of, head_spot}
use Rattle.ada_resolve.specs.Statements.{bound_meant, condition_meant, condition_remark, simple_texts, statement_meant, statement_remark, with_texts}
use Rattle.ada_resolve.proofs.WellFormed.Remarks.{Quiet, noted_quiet, settled_all, settled_quiet}

-- what goes on gave something before
pub gone_on : {X Y : Type 0} (t : Told X) (more : X → Told Y) (y : Y) → and_then t more ≡ gives y → (x : X) × (t ≡ gives x) × (more x ≡ gives y)
gone_on (broken spot rule) more y e = absurd (cc e)
gone_on (gives x) more y e = (x, refl, e)

-- the parts of a pair
pub first_same : {A B : Type 0} {p q : A × B} → p ≡ q → p.0 ≡ q.0
first_same e = ap (λ v. v.0) e

pub second_same : {A B : Type 0} {p q : A × B} → p ≡ q → p.1 ≡ q.1
second_same e = ap (λ v. v.1) e

-- what is made of a part
pub made_gives : {X Y S : Type 0} (make : X → Y) (t : Told (X × S)) (y : Y × S) → made_into make t ≡ gives y → (x : X × S) × (t ≡ gives x) × (make x.0 ≡ y.0) × (x.1 ≡ y.1)
made_gives make (broken spot rule) y e = absurd (cc e)
made_gives make (gives x) y e = let same : (make x.0, x.1) ≡ y = cc e in (x, refl, first_same same, second_same same)

pub made_from : {X Y S : Type 0} (make : X → Y) (t : Told (X × S)) (y : Y × S) → made_into make t ≡ gives y → (x : X × S) × (t ≡ gives x) × (y.0 ≡ make x.0) × (y.1 ≡ x.1)
made_from make t y e = let made = made_gives make t y e in (made.0, made.1, sym made.2, sym made.3)

-- what comes of a part behind which this is known
pub known_gives : {X : Type 0} (k : Known) (t : Told (X × Notes)) (y : X × At) → knowing k t ≡ gives y → (x : X × Notes) × (t ≡ gives x) × (x.0 ≡ y.0) × (k ≡ y.1.0) × (x.1 ≡ y.1.1)
known_gives k (broken spot rule) y e = absurd (cc e)
known_gives k (gives x) y e = let same : (x.0, (k, x.1)) ≡ y = cc e in (x, refl, first_same same, first_same (second_same same), second_same (second_same same))

-- a condition
pub record ConditionDone (e : ExpressionTree) (at : At) (done : ExpressionForm × At) : Type 0 where
  pub quiet : Quiet (condition_remark at.0 e)
  pub form : done.0 ≡ condition_meant at.0 e
  pub known : done.1.0 ≡ at.0

pub condition_done : (e : ExpressionTree) (at : At) (done : ExpressionForm × At) → condition_told e at ≡ gives done → ConditionDone e at done
condition_done e at done is =
    let k = known_gives at.0 (settled (noted (condition_remark at.0 e) at.1) (condition_meant at.0 e)) done is in
    let told = settled_quiet (condition_remark at.0 e) at.1 (condition_meant at.0 e) k.0 k.1 in
    record { quiet = told.0; form = sym k.2 ∙ told.1; known = sym k.3 }

-- a node of the source
pub node_done : (spot : Spot) (k : Known) (notes : Notes) (done : At) → node_told spot k notes ≡ gives done → done.0 ≡ k
node_done spot k notes done is = (settled_quiet (node spot) notes k done is).1

-- the head of a loop
abbrev pub HeadIs : Spot → SchemeTree → Known → LoopHead → Known → Type 0
HeadIs spot endless k head m = (head ≡ on_condition None) × (m ≡ k)
HeadIs spot (while_scheme e) k head m = (Quiet (condition_remark k e)) × (head ≡ on_condition (Some (condition_meant k e))) × (m ≡ k)
HeadIs spot (for_scheme name low high) k head m = (Quiet (range_remark k spot name low high)) × (head ≡ over_range (length k.variables) (bound_meant k low) (bound_meant k high)) × (m ≡ with_parameter name k)

pub record HeadDone (spot : Spot) (scheme : SchemeTree) (ss : StatementsTree) (at : At) (done : LoopHead × At) : Type 0 where
  pub quiet : Quiet (body_remark spot ss)
  pub is : HeadIs spot scheme at.0 done.0 done.1.0

pub head_done : (spot : Spot) (scheme : SchemeTree) (ss : StatementsTree) (at : At) (done : LoopHead × At) → head_told spot scheme (at.0, noted (body_remark spot ss) at.1) ≡ gives done → HeadDone spot scheme ss at done
head_done spot endless ss at done is =
    let before = noted (body_remark spot ss) at.1 in
    let k = known_gives at.0 (settled (noted (node spot) before) (on_condition None)) done is in
    let told = settled_all (node spot) before (on_condition None) k.0 k.1 in
    record { quiet = (noted_quiet (body_remark spot ss) at.1 told.1).0; is = (sym k.2 ∙ told.2, sym k.3) }
head_done spot (while_scheme e) ss at done is =
    let before = noted (body_remark spot ss) at.1 in
    let r = node spot also condition_remark at.0 e in
    let k = known_gives at.0 (settled (noted r before) (on_condition (Some (condition_meant at.0 e)))) done is in
    let told = settled_all r before (on_condition (Some (condition_meant at.0 e))) k.0 k.1 in
    record { quiet = (noted_quiet (body_remark spot ss) at.1 told.1).0; is = (told.0.1, sym k.2 ∙ told.2, sym k.3) }
head_done spot (for_scheme name low high) ss at done is =
    let before = noted (body_remark spot ss) at.1 in
    let r = range_remark at.0 spot name low high in
    let range = over_range (length at.0.variables) (bound_meant at.0 low) (bound_meant at.0 high) in
    let k = known_gives (with_parameter name at.0) (settled (noted r before) range) done is in
    let told = settled_all r before range k.0 k.1 in
    record { quiet = (noted_quiet (body_remark spot ss) at.1 told.1).0; is = (told.0, sym k.2 ∙ told.2, sym k.3) }

-- a statement with no others in it
pub record SimpleDone (inside : Bool) (s : StatementTree) (at : At) (done : StmtForm × At) : Type 0 where
  pub quiet : Quiet (statement_remark at.0 inside s)
  pub form : done.0 ≡ statement_meant at.0 s
  pub known : done.1.0 ≡ with_texts (simple_texts s) at.0

pub simple_done : (inside : Bool) (s : StatementTree) (at : At) (done : StmtForm × At) → simple_told inside s at ≡ gives done → SimpleDone inside s at done
simple_done inside s at done is =
    let k = known_gives (with_texts (simple_texts s) at.0) (settled (noted (statement_remark at.0 inside s) at.1) (statement_meant at.0 s)) done is in
    let told = settled_quiet (statement_remark at.0 inside s) at.1 (statement_meant at.0 s) k.0 k.1 in
    record { quiet = told.0; form = sym k.2 ∙ told.1; known = sym k.3 }

-- an `if`
pub record IfDone (inside : Bool) (spot : Spot) (branches : BranchesTree) (others : StatementsTree) (at : At) (done : StmtForm × At) : Type 0 where
  pub begun : At
  pub begun_known : begun.0 ≡ at.0
  pub own : BranchesForm × At
  pub told : branches_told inside branches (λ behind. statements_told inside others behind) begun ≡ gives own
  pub form : done.0 ≡ chooses own.0
  pub behind : done.1 ≡ own.1

pub if_done : (inside : Bool) (spot : Spot) (branches : BranchesTree) (others : StatementsTree) (last : Spot) (at : At) (done : StmtForm × At) → statement_told inside (if_statement spot branches others last) at ≡ gives done → IfDone inside spot branches others at done
if_done inside spot branches others last at done is =
    let tail : Others = λ behind. statements_told inside others behind in
    let head = gone_on (node_told spot at.0 at.1) (λ begun. made_into chooses (branches_told inside branches tail begun)) done is in
    let made = made_from chooses (branches_told inside branches tail head.0) done head.2 in
    record { begun = head.0; begun_known = node_done spot at.0 at.1 head.0 head.1; own = made.0; told = made.1; form = made.2; behind = made.3 }

-- a loop that ends
loop_gives : (head : LoopHead) (last : Spot) (t : Told (StmtsForm × At)) (y : StmtForm × At) → ended_loop head last t ≡ gives y → (x : StmtsForm × At) × (t ≡ gives x) × (y.0 ≡ loop_of head x.0 last) × (y.1.0 ≡ behind_loop head x.1.0)
loop_gives head last (broken spot rule) y e = absurd (cc e)
loop_gives head last (gives x) y e = let same : y ≡ (loop_of head x.0 last, (behind_loop head x.1.0, x.1.1)) = cc e in (x, refl, first_same same, first_same (second_same same))

-- a loop
pub record LoopDone (spot : Spot) (scheme : SchemeTree) (ss : StatementsTree) (last : Spot) (at : At) (done : StmtForm × At) : Type 0 where
  pub head : LoopHead × At
  pub head_so : HeadDone spot scheme ss at head
  pub own : StmtsForm × At
  pub told : statements_told true ss head.1 ≡ gives own
  pub form : done.0 ≡ loop_of head.0 own.0 last
  pub known : done.1.0 ≡ behind_loop head.0 own.1.0

pub loop_done : (inside : Bool) (spot : Spot) (scheme : SchemeTree) (ss : StatementsTree) (last : Spot) (at : At) (done : StmtForm × At) → statement_told inside (loop_statement spot scheme ss last) at ≡ gives done → LoopDone spot scheme ss last at done
loop_done inside spot scheme ss last at done is =
    let head = gone_on (head_told spot scheme (at.0, noted (body_remark spot ss) at.1)) (λ begun. ended_loop begun.0 last (statements_told true ss begun.1)) done is in
    let made = loop_gives head.0.0 last (statements_told true ss head.0.1) done head.2 in
    record { head = head.0; head_so = head_done spot scheme ss at head.0 head.1; own = made.0; told = made.1; form = made.2; known = made.3 }

-- a block that ends
block_gives : (t : Told (SequenceForm × At)) (y : StmtForm × At) → ended_block t ≡ gives y → (x : SequenceForm × At) × (t ≡ gives x) × (y.0 ≡ block_of x.1.0 x.0) × (y.1.0 ≡ without_part x.1.0)
block_gives (broken spot rule) y e = absurd (cc e)
block_gives (gives x) y e = let same : y ≡ (block_of x.1.0 x.0, (without_part x.1.0, x.1.1)) = cc e in (x, refl, first_same same, first_same (second_same same))

-- a block with no declarations
pub record BlockDone (inside : Bool) (body : SequenceTree) (at : At) (done : StmtForm × At) : Type 0 where
  pub inner : At
  pub inner_known : inner.0 ≡ with_part at.0
  pub body_done : SequenceForm × At
  pub told : sequence_told inside body inner ≡ gives body_done
  pub form : done.0 ≡ block_of body_done.1.0 body_done.0
  pub known : done.1.0 ≡ without_part body_done.1.0

pub block_done : (inside : Bool) (body : SequenceTree) (at : At) (done : StmtForm × At) → statement_told inside (block body) at ≡ gives done → BlockDone inside body at done
block_done inside body at done is =
    let head = gone_on (node_told (begin_of body) (with_part at.0) at.1) (λ inner. ended_block (sequence_told inside body inner)) done is in
    let made = block_gives (sequence_told inside body head.0) done head.2 in
    record {
      inner = head.0;
      inner_known = node_done (begin_of body) (with_part at.0) at.1 head.0 head.1;
      body_done = made.0;
      told = made.1;
      form = made.2;
      known = made.3;
    }

-- a block with declarations
pub record DeclareDone (inside : Bool) (ds : DeclarationsTree) (body : SequenceTree) (at : At) (done : StmtForm × At) : Type 0 where
  pub inner : At
  pub inner_known : inner.0 ≡ with_part at.0
  pub behind : At
  pub declared : declarations_told ds inner ≡ gives behind
  pub body_done : SequenceForm × At
  pub told : sequence_told inside body behind ≡ gives body_done
  pub form : done.0 ≡ block_of body_done.1.0 body_done.0
  pub known : done.1.0 ≡ without_part body_done.1.0

pub declare_done : (inside : Bool) (spot : Spot) (ds : DeclarationsTree) (body : SequenceTree) (at : At) (done : StmtForm × At) → statement_told inside (declare_block spot ds body) at ≡ gives done → DeclareDone inside ds body at done
declare_done inside spot ds body at done is =
    let head = gone_on (node_told spot (with_part at.0) at.1) (λ inner. and_then (declarations_told ds inner) (λ behind. ended_block (sequence_told inside body behind))) done is in
    let next = gone_on (declarations_told ds head.0) (λ behind. ended_block (sequence_told inside body behind)) done head.2 in
    let made = block_gives (sequence_told inside body next.0) done next.2 in
    record {
      inner = head.0;
      inner_known = node_done spot (with_part at.0) at.1 head.0 head.1;
      behind = next.0;
      declared = next.1;
      body_done = made.0;
      told = made.1;
      form = made.2;
      known = made.3;
    }

-- the statements and the handlers of a part whose declarations are known
pub record SequenceDone (inside : Bool) (start : Spot) (ss : StatementsTree) (hs : HandlersTree) (at : At) (done : SequenceForm × At) : Type 0 where
  pub quiet : Quiet (begin_remark at.0 start)
  pub ready : At
  pub ready_known : ready.0 ≡ after_types at.0
  pub own : StmtsForm × At
  pub told : statements_told inside ss ready ≡ gives own
  pub handled : HandlersForm × At
  pub handlers_so : handlers_told inside hs own.1 ≡ gives handled
  pub form : done.0 ≡ (own.0, handled.0)
  pub known : done.1.0 ≡ handled.1.0

pub sequence_done : (inside : Bool) (start : Spot) (ss : StatementsTree) (hs : HandlersTree) (last : Spot) (at : At) (done : SequenceForm × At) → sequence_told inside (a_sequence start ss hs last) at ≡ gives done → SequenceDone inside start ss hs at done
sequence_done inside start ss hs last at done is =
    let head = gone_on (at_begin start at) (λ ready. and_then (statements_told inside ss ready) (λ own. made_into (λ handled. (own.0, handled)) (handlers_told inside hs own.1))) done is in
    let told = settled_quiet (begin_remark at.0 start) at.1 (after_types at.0) head.0 head.1 in
    let next = gone_on (statements_told inside ss head.0) (λ own. made_into (λ handled. (own.0, handled)) (handlers_told inside hs own.1)) done head.2 in
    let made = made_from (λ (handled : HandlersForm). (next.0.0, handled)) (handlers_told inside hs next.0.1) done next.2 in
    record {
      quiet = told.0;
      ready = head.0;
      ready_known = told.1;
      own = next.0;
      told = next.1;
      handled = made.0;
      handlers_so = made.1;
      form = made.2;
      known = first_same made.3;
    }

-- the end name changes nothing
named_gives : {X : Type 0} (b : Bool) (spot : Spot) (rule : NameRule) (x y : X) → cond b (gives x) (broken spot rule) ≡ gives y → x ≡ y
named_gives true spot rule x y e = cc e
named_gives false spot rule x y e = absurd (cc e)

pub same_gives : {X : Type 0} (procedure : List ℕ) (o : Option Ident) (x y : X) → same_name procedure o x ≡ gives y → x ≡ y
same_gives procedure None x y e = cc e
same_gives procedure (Some name) x y e = named_gives (bytes_eq name.text procedure) name.spot UnknownName x y e

-- it is the procedure's own, where one is written
pub same_end : {X : Type 0} (procedure : List ℕ) (o : Option Ident) (x y : X) → same_name procedure o x ≡ gives y → IsEndName procedure o
same_end procedure None x y e = tt
same_end procedure (Some name) x y e = by_name (bytes_eq name.text procedure) refl e
  where
    by_name : (b : Bool) → bytes_eq name.text procedure ≡ b → cond b (gives x) (broken name.spot UnknownName) ≡ gives y → name.text ≡ procedure
    by_name true on e = (bytes_eq-Decides name.text procedure).0 on
    by_name false on e = absurd (cc e)

-- a body that ends
body_gives : (head : HeadTree) (last : Spot) (end_name : Option Ident) (t : Told (SequenceForm × At)) (y : At) → ended_body head last end_name t ≡ gives y → (x : SequenceForm × At) × (t ≡ gives x) × (y.0 ≡ body_ended head.name x.0.0 x.0.1 (head_spot head) last x.1.0) × IsEndName head.name.text end_name
body_gives head last end_name (broken spot rule) y e = absurd (cc e)
body_gives head last end_name (gives x) y e =
    let z : At = (body_ended head.name x.0.0 x.0.1 (head_spot head) last x.1.0, x.1.1) in
    (x, refl, first_same (sym (same_gives head.name.text end_name z y e)), same_end head.name.text end_name z y e)

-- the body of a procedure
pub record ProcedureDone (head : HeadTree) (ds : DeclarationsTree) (body : SequenceTree) (end_name : Option Ident) (at next : At) : Type 0 where
  pub quiet : Quiet (body_head_remark (after_types at.0) head)
  pub inner : At
  pub inner_known : inner.0 ≡ behind_head (after_types at.0) head
  pub behind : At
  pub declared : declarations_told ds inner ≡ gives behind
  pub done : SequenceForm × At
  pub told : sequence_told false body behind ≡ gives done
  pub known : next.0 ≡ body_ended head.name done.0.0 done.0.1 (head_spot head) (end_of body) done.1.0
  pub end_so : IsEndName head.name.text end_name

pub procedure_done : (head : HeadTree) (ds : DeclarationsTree) (body : SequenceTree) (end_name : Option Ident) (at next : At) → declaration_told (body_declaration head ds body end_name) at ≡ gives next → ProcedureDone head ds body end_name at next
procedure_done head ds body end_name at next is =
    let first = gone_on (body_head_told head at) (λ inner. and_then (declarations_told ds inner) (λ behind. ended_body head (end_of body) end_name (sequence_told false body behind))) next is in
    let told = settled_quiet (body_head_remark (after_types at.0) head) at.1 (behind_head (after_types at.0) head) first.0 first.1 in
    let behind = gone_on (declarations_told ds first.0) (λ behind. ended_body head (end_of body) end_name (sequence_told false body behind)) next first.2 in
    let made = body_gives head (end_of body) end_name (sequence_told false body behind.0) next behind.2 in
    record {
      quiet = told.0;
      inner = first.0;
      inner_known = told.1;
      behind = behind.0;
      declared = behind.1;
      done = made.0;
      told = made.1;
      known = made.2;
      end_so = made.3;
    }

-- a declaration with no others in it
pub record SingleDone (d : DeclarationTree) (at next : At) : Type 0 where
  pub quiet : Quiet (declaration_remark (known_at at.0 d) d)
  pub known : next.0 ≡ declaration_known (known_at at.0 d) d

pub single_done : (d : DeclarationTree) (at next : At) → single_told d at ≡ gives next → SingleDone d at next
single_done d at next is =
    let told = settled_quiet (declaration_remark (known_at at.0 d) d) at.1 (declaration_known (known_at at.0 d) d) next is in
    record { quiet = told.0; known = told.1 }

-- a declaration and those behind it
pub record DeclarationsDone (d : DeclarationTree) (ds : DeclarationsTree) (at after : At) : Type 0 where
  pub next : At
  pub one : declaration_told d at ≡ gives next
  pub told : declarations_told ds next ≡ gives after

pub declarations_done : (d : DeclarationTree) (ds : DeclarationsTree) (at after : At) → declarations_told (a_declaration d ds) at ≡ gives after → DeclarationsDone d ds at after
declarations_done d ds at after e =
    let next = gone_on (declaration_told d at) (λ behind. declarations_told ds behind) after e in
    record { next = next.0; one = next.1; told = next.2 }

-- a statement and those behind it
pub record StatementsDone (inside : Bool) (s : StatementTree) (ss : StatementsTree) (at : At) (done : StmtsForm × At) : Type 0 where
  pub own : StmtForm × At
  pub told : statement_told inside s at ≡ gives own
  pub others : StmtsForm × At
  pub others_told : statements_told inside ss own.1 ≡ gives others
  pub form : done.0 ≡ a_stmt own.0 others.0
  pub behind : done.1 ≡ others.1

pub statements_done : (inside : Bool) (s : StatementTree) (ss : StatementsTree) (at : At) (done : StmtsForm × At) → statements_told inside (a_statement s ss) at ≡ gives done → StatementsDone inside s ss at done
statements_done inside s ss at done is =
    let head = gone_on (statement_told inside s at) (λ own. made_into (a_stmt own.0) (statements_told inside ss own.1)) done is in
    let made = made_from (a_stmt head.0.0) (statements_told inside ss head.0.1) done head.2 in
    record { own = head.0; told = head.1; others = made.0; others_told = made.1; form = made.2; behind = made.3 }

-- a branch and those behind it
pub record BranchDone (inside : Bool) (e : ExpressionTree) (ss : StatementsTree) (branches : BranchesTree) (tail : Others) (at : At) (done : BranchesForm × At) : Type 0 where
  pub begun : ExpressionForm × At
  pub condition : ConditionDone e at begun
  pub own : StmtsForm × At
  pub told : statements_told inside ss begun.1 ≡ gives own
  pub others : BranchesForm × At
  pub others_told : branches_told inside branches tail own.1 ≡ gives others
  pub form : done.0 ≡ form.a_branch begun.0 own.0 others.0
  pub behind : done.1 ≡ others.1

pub branch_done : (inside : Bool) (e : ExpressionTree) (ss : StatementsTree) (branches : BranchesTree) (tail : Others) (at : At) (done : BranchesForm × At) → branches_told inside (a_branch e ss branches) tail at ≡ gives done → BranchDone inside e ss branches tail at done
branch_done inside e ss branches tail at done is =
    let head = gone_on (condition_told e at) (λ begun. and_then (statements_told inside ss begun.1) (λ own. made_into (form.a_branch begun.0 own.0) (branches_told inside branches tail own.1))) done is in
    let next = gone_on (statements_told inside ss head.0.1) (λ own. made_into (form.a_branch head.0.0 own.0) (branches_told inside branches tail own.1)) done head.2 in
    let made = made_from (form.a_branch head.0.0 next.0.0) (branches_told inside branches tail next.0.1) done next.2 in
    record {
      begun = head.0;
      condition = condition_done e at head.0 head.1;
      own = next.0;
      told = next.1;
      others = made.0;
      others_told = made.1;
      form = made.2;
      behind = made.3;
    }

-- a handler and those behind it
pub record HandlerDone (inside : Bool) (spot : Spot) (choices : List ChoiceTree) (ss : StatementsTree) (hs : HandlersTree) (at : At) (done : HandlersForm × At) : Type 0 where
  pub begun : List Choice × At
  pub quiet : Quiet (body_remark spot ss also node spot also choices_remark at.0 choices)
  pub choices_are : begun.0 ≡ choices_meant at.0 choices
  pub begun_known : begun.1.0 ≡ at.0
  pub own : StmtsForm × At
  pub told : statements_told inside ss begun.1 ≡ gives own
  pub others : HandlersForm × At
  pub others_told : handlers_told inside hs own.1 ≡ gives others
  pub form : done.0 ≡ form.a_handler begun.0 own.0 others.0
  pub behind : done.1 ≡ others.1

pub handler_done : (inside : Bool) (spot : Spot) (choices : List ChoiceTree) (ss : StatementsTree) (hs : HandlersTree) (at : At) (done : HandlersForm × At) → handlers_told inside (a_handler spot choices ss hs) at ≡ gives done → HandlerDone inside spot choices ss hs at done
handler_done inside spot choices ss hs at done is =
    let r = body_remark spot ss also node spot also choices_remark at.0 choices in
    let head = gone_on (choices_told spot choices ss at) (λ begun. and_then (statements_told inside ss begun.1) (λ own. made_into (form.a_handler begun.0 own.0) (handlers_told inside hs own.1))) done is in
    let k = known_gives at.0 (settled (noted r at.1) (choices_meant at.0 choices)) head.0 head.1 in
    let told = settled_quiet r at.1 (choices_meant at.0 choices) k.0 k.1 in
    let next = gone_on (statements_told inside ss head.0.1) (λ own. made_into (form.a_handler head.0.0 own.0) (handlers_told inside hs own.1)) done head.2 in
    let made = made_from (form.a_handler head.0.0 next.0.0) (handlers_told inside hs next.0.1) done next.2 in
    record {
      begun = head.0;
      quiet = told.0;
      choices_are = sym k.2 ∙ told.1;
      begun_known = sym k.3;
      own = next.0;
      told = next.1;
      others = made.0;
      others_told = made.1;
      form = made.2;
      behind = made.3;
    }
