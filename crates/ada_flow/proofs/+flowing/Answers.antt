use Rattle.std.proofs.Common.{◌≡◌, ℕ, ◌+◌, ◌<◌, Bool, true, false, List, ◌∷◌, map, length, get_or, drop, Option, Some, None, sym, ap, ◌∙◌, subst}
use Rattle.std.proofs.lemmas.List.{at_drop_more}
use Rattle.std.proofs.lemmas.Result.{err_from_is_err_and}
use Rattle.std.specs.Global.{Vec}
use Rattle.std.specs.Prelude.{Ok, Err, IfSome, if◌then◌else◌}
use Rattle.ada_text.specs.declared.spot.Spot.{Spot}
use Rattle.ada_effects.specs.Effects.{Implicit, assignment_frees, passes}
use Rattle.ada_program.specs.declared.program.Handler.{Handler}
use Rattle.ada_program.specs.declared.program.Item.{Item}
use Rattle.ada_program.specs.declared.program.RecordPath.{RecordPath}
use Rattle.ada_program.specs.declared.program.Stmt.{Stmt}
use Rattle.ada_program.specs.declared.program.Stmt.TheVariants.{AssignRecord}
use Rattle.ada_program.specs.Form.{StmtForm, StmtsForm, ExpressionForm, HandlersForm, a_handler, DeclarationForm, assigns_record_form, encloses, encloses_form, condition_form, declaration_form, handlers_form, item_form, record_path_form, stmt_form, stmts_form}
use Rattle.ada_program.specs.ProgramForm.{TypeForm, VariableForm}
use Rattle.ada_flow.specs.declared.fault.FlowFault.{FlowFault}
use Rattle.ada_flow.specs.declared.fault.FlowFault.TheVariants.{Broken, NoMemory}
use Rattle.ada_flow.specs.Flow.{Holds, Gone, goes, Around, gives_record, gone_with, gone_with_both, nothing_gone, join_option, stmt_flow, stmts_flow, handlers_flow, unless_worse, condition_flow, loop_flow, in_loop, in_block, declarations_flow}
use Rattle.ada_flow.specs.Told.{Noted, emptied, ending, end_handled, around_of, breach_of, finalized_option, gone_of, held, joined_end, noted, noted_behind, noted_for, types_in, variables_in}
use Rattle.ada_flow.proofs.Noted.{End, handlers_end, turn_returns, turn_stops, block_declares_badly, block_breaks, block_handles}
use Rattle.ada_flow.proofs.+flowing.Goals as goal
use Rattle.ada_flow.proofs.+flowing.Goals.{repetition::turn-in-Some+in_ok-unless_worse, repetition::turn-in_default}
use Rattle.ada_flow.specs.Tracking.{Tracks}

-- a handler joins those before it
handler_step : (so_far joined end : Option Holds) (n k : Noted) (types : List TypeForm) (variables : List VariableForm) (around : Around) (handlers : List Handler) (i : ℕ) (one : Handler) (statements : List Stmt) (raising copied : Holds) (all : End) →
    i < length handlers → one ≡ get_or handlers i one → statements ≡ one.statements.items → copied ≡ raising →
    ending n (stmts_flow types variables around (stmts_form statements) copied) ≡ Ok (end, k) → joined ≡ join_option so_far end →
    joined_end so_far (ending n (handlers_flow types variables around (handlers_form (drop i handlers)) raising)) ≡ all →
    joined_end joined (ending k (handlers_flow types variables around (handlers_form (drop (i + 1) handlers)) raising)) ≡ all
handler_step so_far joined end n k types variables around handlers i one statements raising copied all inside item same copy ends joins before =
    let left = handlers_form (drop (i + 1) handlers) in
    let step : handlers_form (drop i handlers) ≡ a_handler one.choices.items (stmts_form one.statements.items) left =
    at_drop_more handlers_form handlers i one inside ∙ ap (λ (h : Handler). handlers_form (h ∷ drop (i + 1) handlers)) (sym item) in
    let own : ending n (stmts_flow types variables around (stmts_form one.statements.items) raising) ≡ Ok (end, k) =
    subst (λ (ss : List Stmt). ending n (stmts_flow types variables around (stmts_form ss) raising) ≡ Ok (end, k)) same
    (subst (λ (hs : Holds). ending n (stmts_flow types variables around (stmts_form statements) hs) ≡ Ok (end, k)) copy ends) in
    ap (λ (j : Option Holds). joined_end j (ending k (handlers_flow types variables around left raising))) joins
    ∙ sym (handlers_end so_far n k types variables around one.choices.items (stmts_form one.statements.items) left raising end own)
    ∙ sym (ap (λ (hs : HandlersForm). joined_end so_far (ending n (handlers_flow types variables around hs raising))) step)
    ∙ before

pub blocks::handlers-handlers-preserved : goal.blocks::handlers-handlers-preserved
blocks::handlers-handlers-preserved t c =
    handler_step (held c.handlers.joined) (held c.join_ends-joined.result) (held c.in_ok-end.end) (noted c.handlers.raised) (noted c.statements.new.raised)
    (types_in c.args.around.now) (variables_in c.args.around.now) (around_of c.args.around.now) c.args.handlers.now c.handlers.handler-index c.handler-item.result c.deref.result.now
    c.args.raising.now.holds.items c.in_ok-copy.field-0.holds.items
    (ending (noted c.args.raised.now) (handlers_flow (types_in c.args.around.now) (variables_in c.args.around.now) (around_of c.args.around.now) (handlers_form c.args.handlers.now) c.args.raising.now.holds.items))
    c.handlers-test.true c.handler-item.is c.deref.ensures.value c.in_ok-copy.ensures c.in_ok-end.ensures c.join_ends-joined.ensures c.handlers.invariant

-- one turn, where it leads back and where it doesn't
turned : (leaves : Bool) (n m k : Noted) (condition : Option ExpressionForm) (spot : Spot) (types : List TypeForm) (variables : List VariableForm) (around : Around) (fs : StmtsForm) (start : Holds) (end : Option Holds) →
    ending n (condition_flow around.tracks condition start) ≡ Ok (Some start, m) → ending m (stmts_flow types variables (in_loop (Some start) around) fs start) ≡ Ok (end, k) →
    IfSome end (λ after. unless_worse start after spot (goes (Some after) None) ≡ goes (Some after) None) →
    ending n (loop_flow around.tracks condition leaves spot (λ place hs. stmts_flow types variables (in_loop place around) fs hs) start) ≡ Ok ((if leaves then Some start else None), k)
turned leaves n m k condition spot types variables around fs start None tests turns keeps = turn_stops leaves n m k condition spot types variables around fs start tests turns
turned leaves n m k condition spot types variables around fs start (Some after) tests turns keeps = turn_returns leaves n m k condition spot types variables around fs start after tests turns keeps

-- the same of what the code keeps
turned_in : (leaves b : Bool) (n m k : Noted) (condition : Option ExpressionForm) (spot : Spot) (types ts : List TypeForm) (variables vs : List VariableForm) (around place : Around) (fs : StmtsForm) (start placed copied : Holds) (end : Option Holds) →
    leaves ≡ b → placed ≡ start → copied ≡ start → ts ≡ types → vs ≡ variables → place ≡ in_loop (Some placed) around →
    ending n (condition_flow around.tracks condition start) ≡ Ok (Some start, m) → ending m (stmts_flow ts vs place fs copied) ≡ Ok (end, k) →
    IfSome end (λ after. unless_worse start after spot (goes (Some after) None) ≡ goes (Some after) None) →
    ending n (loop_flow around.tracks condition leaves spot (λ place hs. stmts_flow types variables (in_loop place around) fs hs) start) ≡ Ok ((if b then Some start else None), k)
turned_in leaves b n m k condition spot types ts variables vs around place fs start placed copied end leaves_is placed_is copied_is ts_is vs_is place_is tests turns keeps =
    let at_start : place ≡ in_loop (Some start) around = place_is ∙ ap (λ (d : Holds). in_loop (Some d) around) placed_is in
    let second : ending m (stmts_flow types variables (in_loop (Some start) around) fs start) ≡ Ok (end, k) =
    subst (λ (t : List TypeForm). ending m (stmts_flow t variables (in_loop (Some start) around) fs start) ≡ Ok (end, k)) ts_is
    (subst (λ (v : List VariableForm). ending m (stmts_flow ts v (in_loop (Some start) around) fs start) ≡ Ok (end, k)) vs_is
    (subst (λ (p : Around). ending m (stmts_flow ts vs p fs start) ≡ Ok (end, k)) at_start
    (subst (λ (d : Holds). ending m (stmts_flow ts vs place fs d) ≡ Ok (end, k)) copied_is turns))) in
    subst (λ (l : Bool). ending n (loop_flow around.tracks condition leaves spot (λ place hs. stmts_flow types variables (in_loop place around) fs hs) start) ≡ Ok ((if l then Some start else None), k)) leaves_is
    (turned leaves n m k condition spot types variables around fs start end tests second keeps)

keeps_start : (start first after seen : Holds) (spot : Spot) → first ≡ start → seen ≡ after → unless_worse first seen spot (goes (Some seen) None) ≡ goes (Some seen) None →
    unless_worse start after spot (goes (Some after) None) ≡ goes (Some after) None
keeps_start start first after seen spot first_is seen_is keeps =
    subst (λ (a : Holds). unless_worse start a spot (goes (Some a) None) ≡ goes (Some a) None) seen_is
    (subst (λ (s : Holds). unless_worse s seen spot (goes (Some seen) None) ≡ goes (Some seen) None) first_is keeps)

-- with which nothing goes
place_in : (start : Holds) (inside : Gone) (around place : Around) → place ≡ record around { start = Some start; inside = inside } → inside ≡ nothing_gone →
    place ≡ in_loop (Some start) around
place_in start inside around place place_is nothing = place_is ∙ ap (λ (g : Gone). record around { start = Some start; inside = g }) nothing

pub repetition::turn-returns-then-leaves : goal.repetition::turn-returns-then-leaves
repetition::turn-returns-then-leaves t c =
    let keeps : IfSome (held c.in_ok-after.field-0) (λ after. unless_worse c.args.start.holds.items after c.args.end (goes (Some after) None) ≡ goes (Some after) None) =
    elim c.match-branch-4.branch as (λ _. IfSome (held c.in_ok-after.field-0) (λ after. unless_worse c.args.start.holds.items after c.args.end (goes (Some after) None) ≡ goes (Some after) None)) [
      | repetition::turn-in-Some+in_ok-unless_worse w ↦ rw w.in-Some.is (keeps_start c.args.start.holds.items w.holds-in-Some-2.result.now w.in-Some.after.holds.items w.holds-in-Some.result.now c.args.end w.holds-in-Some-2.ensures w.holds-in-Some.ensures w.in_ok-unless_worse.ensures)
      | repetition::turn-in_default w ↦ rw w.in_default.is tt
    ] in
    turned_in c.args.leaves true (noted c.args.raised.now) (noted c.compute_condition.new.raised) (noted c.statements.new.raised) (condition_form c.args.condition.now) c.args.end
    (types_in c.args.around.now) (types_in c.in_loop-within.result) (variables_in c.args.around.now) (variables_in c.in_loop-within.result) (around_of c.args.around.now) (around_of c.in_loop-within.result) (stmts_form c.args.body.now)
    c.args.start.holds.items c.holds.result.now c.in_ok-copy.field-0.holds.items (held c.in_ok-after.field-0)
    c.if-leaves.true c.holds.ensures c.in_ok-copy.ensures c.in_loop-within.ensures.types c.in_loop-within.ensures.variables (place_in c.holds.result.now (gone_of c.nothing-nothing.result) (around_of c.args.around.now) (around_of c.in_loop-within.result) c.in_loop-within.ensures.place c.nothing-nothing.ensures)
    c.in_ok-compute_condition.ensures c.in_ok-after.ensures keeps

pub repetition::turn-returns-else-leaves : goal.repetition::turn-returns-else-leaves
repetition::turn-returns-else-leaves t c =
    let keeps : IfSome (held c.in_ok-after.field-0) (λ after. unless_worse c.args.start.holds.items after c.args.end (goes (Some after) None) ≡ goes (Some after) None) =
    elim c.match-branch-4.branch as (λ _. IfSome (held c.in_ok-after.field-0) (λ after. unless_worse c.args.start.holds.items after c.args.end (goes (Some after) None) ≡ goes (Some after) None)) [
      | repetition::turn-in-Some+in_ok-unless_worse w ↦ rw w.in-Some.is (keeps_start c.args.start.holds.items w.holds-in-Some-2.result.now w.in-Some.after.holds.items w.holds-in-Some.result.now c.args.end w.holds-in-Some-2.ensures w.holds-in-Some.ensures w.in_ok-unless_worse.ensures)
      | repetition::turn-in_default w ↦ rw w.in_default.is tt
    ] in
    turned_in c.args.leaves false (noted c.args.raised.now) (noted c.compute_condition.new.raised) (noted c.statements.new.raised) (condition_form c.args.condition.now) c.args.end
    (types_in c.args.around.now) (types_in c.in_loop-within.result) (variables_in c.args.around.now) (variables_in c.in_loop-within.result) (around_of c.args.around.now) (around_of c.in_loop-within.result) (stmts_form c.args.body.now)
    c.args.start.holds.items c.holds.result.now c.in_ok-copy.field-0.holds.items (held c.in_ok-after.field-0)
    c.if-leaves.false c.holds.ensures c.in_ok-copy.ensures c.in_loop-within.ensures.types c.in_loop-within.ensures.variables (place_in c.holds.result.now (gone_of c.nothing-nothing.result) (around_of c.args.around.now) (around_of c.in_loop-within.result) c.in_loop-within.ensures.place c.nothing-nothing.ensures)
    c.in_ok-compute_condition.ensures c.in_ok-after.ensures keeps

-- how the declarations of a block end
declared : (n own : Noted) (types : List TypeForm) (variables : List VariableForm) (tracks : Tracks) (implicit : Implicit) (ds ds' : List DeclarationForm) (holds : Holds) (end : End) → own ≡ emptied n → ds' ≡ ds →
    ending own (declarations_flow types variables tracks implicit ds' holds) ≡ end → ending (emptied n) (declarations_flow types variables tracks implicit ds holds) ≡ end
declared n own types variables tracks implicit ds ds' holds end own_is ds_is ends =
    subst (λ (o : Noted). ending o (declarations_flow types variables tracks implicit ds holds) ≡ end) own_is
    (subst (λ (xs : List DeclarationForm). ending own (declarations_flow types variables tracks implicit xs holds) ≡ end) ds_is ends)

-- and its statements
inner_ends : (m inner : Noted) (types : List TypeForm) (variables : List VariableForm) (around within : Around) (gone : Gone) (fs fs' : StmtsForm) (hs hs' : HandlersForm) (at : Holds) (end : End) →
    within ≡ in_block gone around → inner ≡ noted_for m hs' → hs' ≡ hs → fs' ≡ fs →
    ending inner (stmts_flow types variables within fs' at) ≡ end → ending (noted_for m hs) (stmts_flow types variables (in_block gone around) fs at) ≡ end
inner_ends m inner types variables around within gone fs fs' hs hs' at end within_is inner_is hs_is fs_is ends =
    subst (λ (o : Noted). ending o (stmts_flow types variables (in_block gone around) fs at) ≡ end) (inner_is ∙ ap (noted_for m) hs_is)
    (subst (λ (p : Around). ending inner (stmts_flow types variables p fs at) ≡ end) within_is
    (subst (λ (f : StmtsForm). ending inner (stmts_flow types variables within f at) ≡ end) fs_is ends))

-- where a block's statements stand
abbrev stands : Around → (inside within : Gone) → Around
stands around inside within = record around { inside = inside; within = within }

stands_in : (gone inside within : Gone) (around : Around) → inside ≡ gone_with_both gone around.inside → within ≡ gone_with_both gone around.within →
    stands around inside within ≡ in_block gone around
stands_in gone inside within around e f = ap (λ (g : Gone). stands around g within) e ∙ ap (stands around (gone_with_both gone around.inside)) f

-- its declarations break a rule
declares_badly : (fault : FlowFault) (n own : Noted) (types : List TypeForm) (variables : List VariableForm) (cleared : Bool) (around : Around) (f : StmtForm) (ds ds' : List DeclarationForm) (fs : StmtsForm) (hs : HandlersForm) (holds : Holds) →
    f ≡ encloses ds fs hs → own ≡ emptied n → ds' ≡ ds →
    IfSome (breach_of fault) (λ breach. ending own (declarations_flow types variables around.tracks around.effects.implicit ds' holds) ≡ Err breach) →
    IfSome (breach_of fault) (λ breach. ending n (stmt_flow types variables around cleared f holds) ≡ Err breach)
declares_badly NoMemory n own types variables cleared around f ds ds' fs hs holds form own_is ds_is breaks = tt
declares_badly (Broken spot rule) n own types variables cleared around f ds ds' fs hs holds form own_is ds_is breaks =
    subst (λ (g : StmtForm). ending n (stmt_flow types variables around cleared g holds) ≡ Err (spot, rule)) (sym form)
    (block_declares_badly n types variables around cleared ds fs hs holds (spot, rule) (declared n own types variables around.tracks around.effects.implicit ds ds' holds (Err (spot, rule)) own_is ds_is breaks))

-- its statements do
inner_breaks : (fault : FlowFault) (n own m inner : Noted) (types : List TypeForm) (variables : List VariableForm) (cleared : Bool) (around within : Around) (gone : Gone) (f : StmtForm) (ds ds' : List DeclarationForm) (fs fs' : StmtsForm) (hs hs' : HandlersForm) (holds at : Holds) →
    f ≡ encloses ds fs hs → gone ≡ gone_with ds → own ≡ emptied n → ds' ≡ ds →
    ending own (declarations_flow types variables around.tracks around.effects.implicit ds' holds) ≡ Ok (Some at, m) →
    within ≡ in_block gone around → inner ≡ noted_for m hs' → hs' ≡ hs → fs' ≡ fs →
    IfSome (breach_of fault) (λ breach. ending inner (stmts_flow types variables within fs' at) ≡ Err breach) →
    IfSome (breach_of fault) (λ breach. ending n (stmt_flow types variables around cleared f holds) ≡ Err breach)
inner_breaks NoMemory n own m inner types variables cleared around within gone f ds ds' fs fs' hs hs' holds at form gone_is own_is ds_is declares within_is inner_is hs_is fs_is breaks = tt
inner_breaks (Broken spot rule) n own m inner types variables cleared around within gone f ds ds' fs fs' hs hs' holds at form gone_is own_is ds_is declares within_is inner_is hs_is fs_is breaks =
    subst (λ (g : StmtForm). ending n (stmt_flow types variables around cleared g holds) ≡ Err (spot, rule)) (sym form)
    (block_breaks n m types variables around cleared gone ds fs hs holds at (spot, rule) gone_is
    (declared n own types variables around.tracks around.effects.implicit ds ds' holds (Ok (Some at, m)) own_is ds_is declares)
    (inner_ends m inner types variables around within gone fs fs' hs hs' at (Err (spot, rule)) within_is inner_is hs_is fs_is breaks))

-- and where nothing does
block_is_left : (n own m inner k l raised : Noted) (types : List TypeForm) (variables : List VariableForm) (cleared : Bool) (around within : Around) (gone : Gone) (f : StmtForm) (ds ds' : List DeclarationForm) (fs fs' fs'' : StmtsForm) (hs hs' hs'' : HandlersForm) (holds at : Holds) (normal end leaves : Option Holds) →
    f ≡ encloses ds fs hs → gone ≡ gone_with ds → own ≡ emptied n → ds' ≡ ds →
    ending own (declarations_flow types variables around.tracks around.effects.implicit ds' holds) ≡ Ok (Some at, m) →
    within ≡ in_block gone around → inner ≡ noted_for m hs' → hs' ≡ hs → fs' ≡ fs →
    ending inner (stmts_flow types variables within fs' at) ≡ Ok (normal, k) →
    fs'' ≡ fs → hs'' ≡ hs → end_handled m (passes around.effects fs'' hs'') (handlers_flow types variables within hs'') normal k ≡ Ok (end, l) →
    raised ≡ noted_behind n variables around.effects.implicit gone l → leaves ≡ finalized_option variables around.effects.implicit gone end →
    ending n (stmt_flow types variables around cleared f holds) ≡ Ok (leaves, raised)
block_is_left n own m inner k l raised types variables cleared around within gone f ds ds' fs fs' fs'' hs hs' hs'' holds at normal end leaves form gone_is own_is ds_is declares within_is inner_is hs_is fs_is ends fs_is' hs_is' handles raised_is leaves_is =
    let handlers_end : end_handled m (passes around.effects fs hs) (handlers_flow types variables (in_block gone around) hs) normal k ≡ Ok (end, l) =
    subst (λ (p : Around). end_handled m (passes around.effects fs hs) (handlers_flow types variables p hs) normal k ≡ Ok (end, l)) within_is
    (subst (λ (h : HandlersForm). end_handled m (passes around.effects fs h) (handlers_flow types variables within h) normal k ≡ Ok (end, l)) hs_is'
    (subst (λ (g : StmtsForm). end_handled m (passes around.effects g hs'') (handlers_flow types variables within hs'') normal k ≡ Ok (end, l)) fs_is' handles)) in
    subst (λ (x : Option Holds). ending n (stmt_flow types variables around cleared f holds) ≡ Ok (x, raised)) (sym leaves_is)
    (subst (λ (x : Noted). ending n (stmt_flow types variables around cleared f holds) ≡ Ok (finalized_option variables around.effects.implicit gone end, x)) (sym raised_is)
    (subst (λ (g : StmtForm). ending n (stmt_flow types variables around cleared g holds) ≡ Ok (finalized_option variables around.effects.implicit gone end, noted_behind n variables around.effects.implicit gone l)) (sym form)
    (block_handles n m k types variables around cleared gone ds fs hs holds at normal (Ok (end, l)) gone_is
    (declared n own types variables around.tracks around.effects.implicit ds ds' holds (Ok (Some at, m)) own_is ds_is declares)
    (inner_ends m inner types variables around within gone fs fs' hs hs' at (Ok (normal, k)) within_is inner_is hs_is fs_is ends)
    handlers_end)))

-- its handlers do
handlers_break_rule : (fault : FlowFault) (n own m inner k : Noted) (types : List TypeForm) (variables : List VariableForm) (cleared : Bool) (around within : Around) (gone : Gone) (f : StmtForm) (ds ds' : List DeclarationForm) (fs fs' fs'' : StmtsForm) (hs hs' hs'' : HandlersForm) (holds at : Holds) (normal : Option Holds) →
    f ≡ encloses ds fs hs → gone ≡ gone_with ds → own ≡ emptied n → ds' ≡ ds →
    ending own (declarations_flow types variables around.tracks around.effects.implicit ds' holds) ≡ Ok (Some at, m) →
    within ≡ in_block gone around → inner ≡ noted_for m hs' → hs' ≡ hs → fs' ≡ fs →
    ending inner (stmts_flow types variables within fs' at) ≡ Ok (normal, k) →
    fs'' ≡ fs → hs'' ≡ hs →
    IfSome (breach_of fault) (λ breach. end_handled m (passes around.effects fs'' hs'') (handlers_flow types variables within hs'') normal k ≡ Err breach) →
    IfSome (breach_of fault) (λ breach. ending n (stmt_flow types variables around cleared f holds) ≡ Err breach)
handlers_break_rule NoMemory n own m inner k types variables cleared around within gone f ds ds' fs fs' fs'' hs hs' hs'' holds at normal form gone_is own_is ds_is declares within_is inner_is hs_is fs_is ends fs_is' hs_is' breaks = tt
handlers_break_rule (Broken spot rule) n own m inner k types variables cleared around within gone f ds ds' fs fs' fs'' hs hs' hs'' holds at normal form gone_is own_is ds_is declares within_is inner_is hs_is fs_is ends fs_is' hs_is' breaks =
    let handlers_end : end_handled m (passes around.effects fs hs) (handlers_flow types variables (in_block gone around) hs) normal k ≡ Err (spot, rule) =
    subst (λ (p : Around). end_handled m (passes around.effects fs hs) (handlers_flow types variables p hs) normal k ≡ Err (spot, rule)) within_is
    (subst (λ (h : HandlersForm). end_handled m (passes around.effects fs h) (handlers_flow types variables within h) normal k ≡ Err (spot, rule)) hs_is'
    (subst (λ (g : StmtsForm). end_handled m (passes around.effects g hs'') (handlers_flow types variables within hs'') normal k ≡ Err (spot, rule)) fs_is' breaks)) in
    subst (λ (g : StmtForm). ending n (stmt_flow types variables around cleared g holds) ≡ Err (spot, rule)) (sym form)
    (block_handles n m k types variables around cleared gone ds fs hs holds at normal (Err (spot, rule)) gone_is
    (declared n own types variables around.tracks around.effects.implicit ds ds' holds (Ok (Some at, m)) own_is ds_is declares)
    (inner_ends m inner types variables around within gone fs fs' hs hs' at (Ok (normal, k)) within_is inner_is hs_is fs_is ends)
    handlers_end)

pub statements::statement-returns-in_err-end-in-Block-2 :
    goal.statements::statement-returns-in_err-end-in-Block-2
statements::statement-returns-in_err-end-in-Block-2 t c =
    let form : stmt_form c.args.statement.now ≡ encloses (map declaration_form c.in-Block.declarations.items) (stmts_form c.in-Block.statements.items) (handlers_form c.in-Block.handlers.items) =
    ap stmt_form c.in-Block.is ∙ encloses_form c.in-Block.declarations c.in-Block.statements c.in-Block.handlers in
    let gone_is : gone_of c.in_ok-gone-in-Block.gone ≡ gone_with (map declaration_form c.in-Block.declarations.items) =
    c.in_ok-gone-in-Block.ensures ∙ ap gone_with (ap (map declaration_form) c.deref-in-Block.ensures.value) in
    let p = err_from_is_err_and c.from_residual-in_err-end-in-Block-2.result c.from_residual-in_err-end-in-Block-2.ensures.1 in
    rw (p.1, p.2) (handlers_break_rule c.in_err-end-in-Block-2.field-0.0 (noted c.args.raised.now) (noted c.emptied-own.result) (noted c.declare.new.raised) (noted c.with_handlers-inner.result) (noted c.statements-in-Block.new.raised)
    (types_in c.args.around.now) (variables_in c.args.around.now) c.args.cleared (around_of c.args.around.now)
    (stands (around_of c.args.around.now) (gone_of c.in_ok-inside-in-Block.inside) (gone_of c.in_ok-both-in-Block.both)) (gone_of c.in_ok-gone-in-Block.gone) (stmt_form c.args.statement.now)
    (map declaration_form c.in-Block.declarations.items) (map declaration_form c.deref-in-Block-2.result.now)
    (stmts_form c.in-Block.statements.items) (stmts_form c.deref-in-Block-4.result.now) (stmts_form c.deref-in-Block-6.result.now)
    (handlers_form c.in-Block.handlers.items) (handlers_form c.deref-in-Block-3.result.now) (handlers_form c.deref-in-Block-5.result.now)
    c.args.known.holds.items c.declare.new.known.holds.items (held c.in_ok-end-in-Block.end)
    form gone_is c.emptied-own.ensures (ap (map declaration_form) c.deref-in-Block-2.ensures.value) c.in_ok-declare-in-Block.ensures
    (stands_in (gone_of c.in_ok-gone-in-Block.gone) (gone_of c.in_ok-inside-in-Block.inside) (gone_of c.in_ok-both-in-Block.both) (around_of c.args.around.now) c.in_ok-inside-in-Block.ensures c.in_ok-both-in-Block.ensures)
    c.with_handlers-inner.ensures (ap handlers_form c.deref-in-Block-3.ensures.value) (ap stmts_form c.deref-in-Block-4.ensures.value) c.in_ok-end-in-Block.ensures
    (ap stmts_form c.deref-in-Block-6.ensures.value) (ap handlers_form c.deref-in-Block-5.ensures.value) c.in_err-end-in-Block-2.ensures)

pub statements::statement-returns-in_err-declare-in-Block :
    goal.statements::statement-returns-in_err-declare-in-Block
statements::statement-returns-in_err-declare-in-Block t c =
    let form : stmt_form c.args.statement.now ≡ encloses (map declaration_form c.in-Block.declarations.items) (stmts_form c.in-Block.statements.items) (handlers_form c.in-Block.handlers.items) =
    ap stmt_form c.in-Block.is ∙ encloses_form c.in-Block.declarations c.in-Block.statements c.in-Block.handlers in
    let p = err_from_is_err_and c.from_residual-in_err-declare-in-Block.result c.from_residual-in_err-declare-in-Block.ensures.1 in
    rw (p.1, p.2) (declares_badly c.in_err-declare-in-Block.field-0.0 (noted c.args.raised.now) (noted c.emptied-own.result) (types_in c.args.around.now) (variables_in c.args.around.now) c.args.cleared (around_of c.args.around.now) (stmt_form c.args.statement.now)
    (map declaration_form c.in-Block.declarations.items) (map declaration_form c.deref-in-Block-2.result.now) (stmts_form c.in-Block.statements.items) (handlers_form c.in-Block.handlers.items)
    c.args.known.holds.items form c.emptied-own.ensures (ap (map declaration_form) c.deref-in-Block-2.ensures.value) c.in_err-declare-in-Block.ensures)

pub statements::statement-returns-in_err-end-in-Block :
    goal.statements::statement-returns-in_err-end-in-Block
statements::statement-returns-in_err-end-in-Block t c =
    let form : stmt_form c.args.statement.now ≡ encloses (map declaration_form c.in-Block.declarations.items) (stmts_form c.in-Block.statements.items) (handlers_form c.in-Block.handlers.items) =
    ap stmt_form c.in-Block.is ∙ encloses_form c.in-Block.declarations c.in-Block.statements c.in-Block.handlers in
    let gone_is : gone_of c.in_ok-gone-in-Block.gone ≡ gone_with (map declaration_form c.in-Block.declarations.items) =
    c.in_ok-gone-in-Block.ensures ∙ ap gone_with (ap (map declaration_form) c.deref-in-Block.ensures.value) in
    let p = err_from_is_err_and c.from_residual-in_err-end-in-Block.result c.from_residual-in_err-end-in-Block.ensures.1 in
    rw (p.1, p.2) (inner_breaks c.in_err-end-in-Block.field-0.0 (noted c.args.raised.now) (noted c.emptied-own.result) (noted c.declare.new.raised) (noted c.with_handlers-inner.result) (types_in c.args.around.now) (variables_in c.args.around.now) c.args.cleared (around_of c.args.around.now)
    (stands (around_of c.args.around.now) (gone_of c.in_ok-inside-in-Block.inside) (gone_of c.in_ok-both-in-Block.both)) (gone_of c.in_ok-gone-in-Block.gone) (stmt_form c.args.statement.now)
    (map declaration_form c.in-Block.declarations.items) (map declaration_form c.deref-in-Block-2.result.now) (stmts_form c.in-Block.statements.items) (stmts_form c.deref-in-Block-4.result.now)
    (handlers_form c.in-Block.handlers.items) (handlers_form c.deref-in-Block-3.result.now) c.args.known.holds.items c.declare.new.known.holds.items
    form gone_is c.emptied-own.ensures (ap (map declaration_form) c.deref-in-Block-2.ensures.value) c.in_ok-declare-in-Block.ensures
    (stands_in (gone_of c.in_ok-gone-in-Block.gone) (gone_of c.in_ok-inside-in-Block.inside) (gone_of c.in_ok-both-in-Block.both) (around_of c.args.around.now) c.in_ok-inside-in-Block.ensures c.in_ok-both-in-Block.ensures)
    c.with_handlers-inner.ensures (ap handlers_form c.deref-in-Block-3.ensures.value) (ap stmts_form c.deref-in-Block-4.ensures.value) c.in_err-end-in-Block.ensures)

pub statements::statement-returns-in-Block : goal.statements::statement-returns-in-Block
statements::statement-returns-in-Block t c =
    let form : stmt_form c.args.statement.now ≡ encloses (map declaration_form c.in-Block.declarations.items) (stmts_form c.in-Block.statements.items) (handlers_form c.in-Block.handlers.items) =
    ap stmt_form c.in-Block.is ∙ encloses_form c.in-Block.declarations c.in-Block.statements c.in-Block.handlers in
    let gone_is : gone_of c.in_ok-gone-in-Block.gone ≡ gone_with (map declaration_form c.in-Block.declarations.items) =
    c.in_ok-gone-in-Block.ensures ∙ ap gone_with (ap (map declaration_form) c.deref-in-Block.ensures.value) in
    block_is_left (noted c.args.raised.now) (noted c.emptied-own.result) (noted c.declare.new.raised) (noted c.with_handlers-inner.result) (noted c.statements-in-Block.new.raised) (noted c.handled.new.raised) (noted c.add_behind.new.self)
    (types_in c.args.around.now) (variables_in c.args.around.now) c.args.cleared (around_of c.args.around.now)
    (stands (around_of c.args.around.now) (gone_of c.in_ok-inside-in-Block.inside) (gone_of c.in_ok-both-in-Block.both)) (gone_of c.in_ok-gone-in-Block.gone) (stmt_form c.args.statement.now)
    (map declaration_form c.in-Block.declarations.items) (map declaration_form c.deref-in-Block-2.result.now)
    (stmts_form c.in-Block.statements.items) (stmts_form c.deref-in-Block-4.result.now) (stmts_form c.deref-in-Block-6.result.now)
    (handlers_form c.in-Block.handlers.items) (handlers_form c.deref-in-Block-3.result.now) (handlers_form c.deref-in-Block-5.result.now)
    c.args.known.holds.items c.declare.new.known.holds.items
    (held c.in_ok-end-in-Block.end) (held c.in_ok-end-in-Block-2.end) (held c.in_ok-leave_finalized_end-in-Block.field-0)
    form gone_is c.emptied-own.ensures (ap (map declaration_form) c.deref-in-Block-2.ensures.value) c.in_ok-declare-in-Block.ensures
    (stands_in (gone_of c.in_ok-gone-in-Block.gone) (gone_of c.in_ok-inside-in-Block.inside) (gone_of c.in_ok-both-in-Block.both) (around_of c.args.around.now) c.in_ok-inside-in-Block.ensures c.in_ok-both-in-Block.ensures)
    c.with_handlers-inner.ensures (ap handlers_form c.deref-in-Block-3.ensures.value) (ap stmts_form c.deref-in-Block-4.ensures.value) c.in_ok-end-in-Block.ensures
    (ap stmts_form c.deref-in-Block-6.ensures.value) (ap handlers_form c.deref-in-Block-5.ensures.value) c.in_ok-end-in-Block-2.ensures
    c.in_ok-add_behind-in-Block.ensures c.in_ok-leave_finalized_end-in-Block.ensures

-- an assignment to a record
record_assigned : (n : Noted) (types : List TypeForm) (variables : List VariableForm) (cleared : Bool) (around : Around) (s : Stmt) (target : RecordPath) (items : Vec Item) (given : List Item) (holds : Holds) (end : End) →
    s ≡ AssignRecord target items → given ≡ items.items →
    ending n (gives_record types variables around.tracks (λ t. assignment_frees around.effects.implicit t (record_path_form target).record_type) (record_path_form target) (map item_form given) holds) ≡ end →
    ending n (stmt_flow types variables around cleared (stmt_form s) holds) ≡ end
record_assigned n types variables cleared around s target items given holds end is same gives =
    let may : ℕ → Bool = λ t. assignment_frees around.effects.implicit t (record_path_form target).record_type in
    ap (λ (f : StmtForm). ending n (stmt_flow types variables around cleared f holds)) (ap stmt_form is ∙ assigns_record_form target items)
    ∙ ap (λ (xs : List Item). ending n (gives_record types variables around.tracks may (record_path_form target) (map item_form xs) holds)) (sym same)
    ∙ gives

pub statements::statement-returns-in-AssignRecord : goal.statements::statement-returns-in-AssignRecord
statements::statement-returns-in-AssignRecord t c =
    record_assigned (noted c.args.raised.now) (types_in c.args.around.now) (variables_in c.args.around.now) c.args.cleared (around_of c.args.around.now) c.args.statement.now
    c.in-AssignRecord.target c.in-AssignRecord.items c.deref.result.now c.args.known.holds.items (Ok (Some c.give_record.new.known.holds.items, noted c.give_record.new.raised))
    c.in-AssignRecord.is c.deref.ensures.value c.in_ok-give_record-in-AssignRecord.ensures

-- and one that breaks a rule
record_breaks_rule : (fault : FlowFault) (n : Noted) (types : List TypeForm) (variables : List VariableForm) (cleared : Bool) (around : Around) (s : Stmt) (target : RecordPath) (items : Vec Item) (given : List Item) (holds : Holds) →
    s ≡ AssignRecord target items → given ≡ items.items →
    IfSome (breach_of fault) (λ breach. ending n (gives_record types variables around.tracks (λ t. assignment_frees around.effects.implicit t (record_path_form target).record_type) (record_path_form target) (map item_form given) holds) ≡ Err breach) →
    IfSome (breach_of fault) (λ breach. ending n (stmt_flow types variables around cleared (stmt_form s) holds) ≡ Err breach)
record_breaks_rule NoMemory n types variables cleared around s target items given holds is same breaks = tt
record_breaks_rule (Broken spot rule) n types variables cleared around s target items given holds is same breaks =
    record_assigned n types variables cleared around s target items given holds (Err (spot, rule)) is same breaks

pub statements::statement-returns-in_err-give_record-in-AssignRecord :
    goal.statements::statement-returns-in_err-give_record-in-AssignRecord
statements::statement-returns-in_err-give_record-in-AssignRecord t c =
    let p = err_from_is_err_and c.from_residual-in_err-give_record-in-AssignRecord.result c.from_residual-in_err-give_record-in-AssignRecord.ensures.1 in
    rw (p.1, p.2) (record_breaks_rule c.in_err-give_record-in-AssignRecord.field-0.0 (noted c.args.raised.now) (types_in c.args.around.now) (variables_in c.args.around.now) c.args.cleared (around_of c.args.around.now) c.args.statement.now
    c.in-AssignRecord.target c.in-AssignRecord.items c.deref.result.now c.args.known.holds.items c.in-AssignRecord.is c.deref.ensures.value c.in_err-give_record-in-AssignRecord.ensures)
