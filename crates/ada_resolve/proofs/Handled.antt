-- What comes of handlers behind others.

use Rattle.std.proofs.Common.{◌≡◌, ℕ, Bool, ◌+◌, ◌<◌, List, [], ◌∷◌, ◌++◌, length, map, drop, get_or, refl, ap, sym, ◌∙◌}
use Rattle.std.proofs.lemmas.List.{at_drop_more}
use Rattle.ada_text.specs.declared.spot.Spot.{Spot}
use Rattle.ada_tree.specs.Statements.{HandlerTree, HandlersTree, a_handler, handlers_from}
use Rattle.ada_tree.specs.StatementView.{handler_of}
use Rattle.ada_tree.specs.declared.statements.Handler.{Handler as Written}
use Rattle.ada_program.specs.declared.program.Choice.{Choice}
use Rattle.ada_program.specs.declared.program.Handler.{Handler}
use Rattle.ada_program.specs.Form.{HandlersForm, StmtsForm, handlers_form, stmts_form}
use Rattle.ada_program.specs.Form as form
use Rattle.ada_resolve.specs.declared.fault.NameFault.{NameFault}
use Rattle.ada_resolve.specs.declared.fault.NameFault.TheVariants.{Broken, NoMemory}
use Rattle.ada_resolve.specs.declared.fault.NameRule.{NameRule}
use Rattle.ada_resolve.specs.Resolution.{At, Told, broken, gives, made_into, and_then, choices_told, handler_told, handlers_told, statements_told}
use Rattle.ada_resolve.specs.View.{Refuses, handler_form}
use Rattle.ada_resolve.proofs.Told.{one_then}

-- handlers with others behind them
abbrev pub more_handlers : List Handler → HandlersForm → HandlersForm
more_handlers [] rest = rest
more_handlers (h ∷ hs) rest = form.a_handler h.choices.items (stmts_form h.statements.items) (more_handlers hs rest)

-- what comes behind handlers that are done
unfoldable pub after_handlers : List Handler → Told (HandlersForm × At) → Told (HandlersForm × At)
after_handlers done told = made_into (more_handlers done) told

-- behind none it stays
pub after_none : (told : Told (HandlersForm × At)) → after_handlers [] told ≡ told
unfolding after_handlers
after_none (broken spot rule) = refl
after_none (gives x) = refl

-- a fault stays
after_fault : (done : List Handler) (spot : Spot) (rule : NameRule) → after_handlers done (broken spot rule) ≡ broken spot rule
unfolding after_handlers
after_fault done spot rule = refl

one_more : (done : List Handler) (h : Handler) (rest : HandlersForm) → more_handlers done (form.a_handler h.choices.items (stmts_form h.statements.items) rest) ≡ more_handlers (done ++ h ∷ []) rest
one_more [] h rest = refl
one_more (d ∷ ds) h rest = ap (form.a_handler d.choices.items (stmts_form d.statements.items)) (one_more ds h rest)

-- a first one may be done before
after_first : (done : List Handler) (h : Handler) (told : Told (HandlersForm × At)) →
    after_handlers done (made_into (form.a_handler h.choices.items (stmts_form h.statements.items)) told) ≡ after_handlers (done ++ h ∷ []) told
unfolding after_handlers
after_first done h (broken spot rule) = refl
after_first done h (gives x) = ap (λ (hs : HandlersForm). let t : Told (HandlersForm × At) = gives (hs, x.1) in t) (one_more done h x.0)

handlers_end : (done : List Handler) → more_handlers done form.no_handlers ≡ handlers_form done
handlers_end [] = refl
handlers_end (d ∷ ds) = ap (form.a_handler d.choices.items (stmts_form d.statements.items)) (handlers_end ds)

-- where none is left, those that are done come
pub after_end : (done : List Handler) (at : At) → after_handlers done (gives (form.no_handlers, at)) ≡ gives (handlers_form done, at)
unfolding after_handlers
after_end done at = ap (λ (hs : HandlersForm). let t : Told (HandlersForm × At) = gives (hs, at) in t) (handlers_end done)

-- handlers come one by one
handlers_by_one : (inside_loop : Bool) (at : At) (h : HandlerTree) (rest : HandlersTree) →
    handlers_told inside_loop (a_handler h.spot h.choices h.statements rest) at ≡
    and_then (handler_told inside_loop h at) (λ done. made_into (form.a_handler done.0.0 done.0.1) (handlers_told inside_loop rest done.1))
handlers_by_one inside_loop at h rest =
    one_then (choices_told h.spot h.choices h.statements at) (λ begun. statements_told inside_loop h.statements begun.1)
    (λ (choices : List Choice) (fs : StmtsForm) (behind : At). made_into (form.a_handler choices fs) (handlers_told inside_loop rest behind))

-- a handler that is done goes behind those that are
handler_done : (inside_loop : Bool) (before after : At) (done : List Handler) (h : Handler) (x : HandlerTree) (rest : HandlersTree) →
    handler_told inside_loop x before ≡ gives (handler_form h, after) →
    after_handlers done (handlers_told inside_loop (a_handler x.spot x.choices x.statements rest) before) ≡ after_handlers (done ++ h ∷ []) (handlers_told inside_loop rest after)
handler_done inside_loop before after done h x rest comes =
    ap (after_handlers done) (handlers_by_one inside_loop before x rest) ∙
    ap (λ (t : Told ((List Choice × StmtsForm) × At)). after_handlers done (and_then t (λ d. made_into (form.a_handler d.0.0 d.0.1) (handlers_told inside_loop rest d.1)))) comes ∙
    after_first done h (handlers_told inside_loop rest after)

-- a fault of a handler is that of all
handler_fails : (inside_loop : Bool) (before : At) (done : List Handler) (x : HandlerTree) (rest : HandlersTree) (spot : Spot) (rule : NameRule) →
    handler_told inside_loop x before ≡ broken spot rule →
    after_handlers done (handlers_told inside_loop (a_handler x.spot x.choices x.statements rest) before) ≡ broken spot rule
handler_fails inside_loop before done x rest spot rule fails =
    ap (after_handlers done) (handlers_by_one inside_loop before x rest) ∙
    ap (λ (t : Told ((List Choice × StmtsForm) × At)). after_handlers done (and_then t (λ d. made_into (form.a_handler d.0.0 d.0.1) (handlers_told inside_loop rest d.1)))) fails ∙
    after_fault done spot rule

-- what comes of the handlers from one on, behind those that are done
abbrev from_here : Bool → At → List Handler → List Written → Told (HandlersForm × At)
from_here inside_loop before done handlers = after_handlers done (handlers_told inside_loop (handlers_from (map handler_of handlers)) before)

-- the handler at an index is the first from there on
at_handler : (inside_loop : Bool) (before : At) (done : List Handler) (handlers : List Written) (i : ℕ) (x : Written) →
    i < length handlers → x ≡ get_or handlers i x →
    from_here inside_loop before done (drop i handlers) ≡ from_here inside_loop before done (x ∷ drop (i + 1) handlers)
at_handler inside_loop before done handlers i x in_range at =
    at_drop_more (from_here inside_loop before done) handlers i x in_range ∙
    ap (λ (y : Written). from_here inside_loop before done (y ∷ drop (i + 1) handlers)) (sym at)

-- a handler at an index that is done goes behind those that are
pub handler_step : (inside_loop : Bool) (before after : At) (done next : List Handler) (h : Handler) (handlers : List Written) (i : ℕ) (x : Written) (all : Told (HandlersForm × At)) →
    i < length handlers → x ≡ get_or handlers i x →
    handler_told inside_loop (handler_of x) before ≡ gives (handler_form h, after) →
    next ≡ done ++ h ∷ [] →
    after_handlers done (handlers_told inside_loop (handlers_from (map handler_of (drop i handlers))) before) ≡ all →
    after_handlers next (handlers_told inside_loop (handlers_from (map handler_of (drop (i + 1) handlers))) after) ≡ all
handler_step inside_loop before after done next h handlers i x all in_range at comes pushed so_far =
    ap (λ (made : List Handler). from_here inside_loop after made (drop (i + 1) handlers)) pushed ∙
    sym (handler_done inside_loop before after done h (handler_of x) (handlers_from (map handler_of (drop (i + 1) handlers))) comes) ∙
    sym (at_handler inside_loop before done handlers i x in_range at) ∙
    so_far

-- the fault of a handler at an index is that of all
pub handler_refused : (inside_loop : Bool) (before : At) (done : List Handler) (handlers : List Written) (i : ℕ) (x : Written) (all : Told (HandlersForm × At)) (fault : NameFault) →
    i < length handlers → x ≡ get_or handlers i x →
    Refuses fault (handler_told inside_loop (handler_of x) before) →
    after_handlers done (handlers_told inside_loop (handlers_from (map handler_of (drop i handlers))) before) ≡ all →
    Refuses fault all
handler_refused inside_loop before done handlers i x all (Broken spot rule) in_range at fails so_far =
    sym so_far ∙ at_handler inside_loop before done handlers i x in_range at ∙
    handler_fails inside_loop before done (handler_of x) (handlers_from (map handler_of (drop (i + 1) handlers))) spot rule fails
handler_refused inside_loop before done handlers i x all NoMemory in_range at fails so_far = tt
