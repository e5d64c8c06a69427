-- The body of a procedure fits, and what is known behind it is in order.

use Rattle.std.proofs.Common.{◌≡◌, ◌∙◌, ℕ, ◌+◌, true, false, List, [], ◌∷◌, ◌++◌, length, append_assoc, length-append, refl, sym, ap, subst, arith, eq-eqb}
use Rattle.std.specs.Prelude.{Some, ◌&&◌}
use Rattle.std.specs.List.{list_all, slice_get}
use Rattle.std.proofs.lemmas.Bool.{false_from_ne_true}
use Rattle.std.proofs.lemmas.List.{append-nil}
use Rattle.ada_text.specs.declared.spot.Spot.{Spot}
use Rattle.ada_tree.specs.Declarations.{HeadTree}
use Rattle.ada_program.specs.Form.{StmtsForm, HandlersForm}
use Rattle.ada_program.specs.Freed.{body_frees_own}
use Rattle.ada_program.specs.ProgramForm.{TypeForm, object_of}
use Rattle.ada_program.specs.WellFormed as fits
use Rattle.ada_program.specs.WellFormed.{declarations_fit, stmts_fit, handlers_fit, Creation}
use Rattle.ada_resolve.specs.Known.{Known, next_procedure, no_body_yet, no_variable_yet, types_go_on}
use Rattle.ada_resolve.specs.Primitives.{operation_named}
use Rattle.ada_resolve.specs.Procedures.{no_formals, with_formals, behind_head, body_of, body_ended}
use Rattle.ada_resolve.proofs.Standing.{Sound, IsSettled, longer, sound_laid, get_front, around_body, around_sound, InBody, closed_body, operand_at, ended_is}
use Rattle.ada_resolve.proofs.Standing.Procedures.{AllObjects, head_complete, head_formals, head_objects, body_ended_some}
use Rattle.ada_resolve.proofs.WellFormed.Alike.{body_late}
use Rattle.ada_resolve.proofs.WellFormed.Called.{callables}
use Rattle.ada_resolve.proofs.WellFormed.Created.{accesses, accesses_object, accesses_past, collected, bodies_collect, bodies_known, collect_least, created_more, Creates}
use Rattle.ada_resolve.proofs.WellFormed.Elaborated.{Late, InOrder, late}
use Rattle.ada_resolve.proofs.WellFormed.Forms.{AreIn, forms, forms_in, forms_length}
use Rattle.ada_resolve.proofs.WellFormed.Freed.{body_frees}
use Rattle.ada_resolve.proofs.WellFormed.Lasting.{Ended, ended_on, body_later, one_body_more}
use Rattle.ada_resolve.proofs.WellFormed.Overridden.{if_forms}
use Rattle.ada_resolve.proofs.WellFormed.Tables.{all_more, both_parts, second_part}

-- where a body begins
pub record BodyBegun (k inner : Known) : Type 0 where
  pub accesses : (a : ℕ) → accesses inner.types a ≡ accesses k.types a
  pub bodies : inner.bodies ≡ k.bodies
  pub first_type : inner.here.first_type ≡ length inner.types
  pub first_variable : inner.here.first_variable ≡ length inner.variables
  pub first_body : inner.here.first_body ≡ length inner.bodies
  pub modes : length inner.here.modes ≡ length inner.variables
  pub ended : Ended k → Ended inner

-- the types by which formals are known are no access types
accesses_objects : (types more : List TypeForm) → AllObjects more → (a : ℕ) → accesses (types ++ more) a ≡ accesses types a
accesses_objects types [] w a = ap (λ (ts : List TypeForm). accesses ts a) (append-nil types)
accesses_objects types (object_of r ∷ more) w a =
    ap (λ (ts : List TypeForm). accesses ts a) (sym (append_assoc types (object_of r ∷ []) more)) ∙
    (accesses_objects (types ++ object_of r ∷ []) more w a ∙ accesses_object types r a)
accesses_objects types (form ∷ more) w a = absurd w

pub body_begins : (k : Known) (head : HeadTree) → BodyBegun k (behind_head k head)
unfolding behind_head
body_begins k head =
    let own = (with_formals k head.formals no_formals).types in
    let longer = length-append k.types own in
    record {
      accesses = accesses_objects k.types own (head_objects k head.formals);
      bodies = refl;
      first_type = refl;
      first_variable = refl;
      first_body = refl;
      modes = (head_formals k head.formals).modes;
      ended = λ e. ended_on k (behind_head k head) refl (omega arith) (omega arith) (omega (arith, longer)) (omega arith)
          (λ t form is settled. (forms_in k.types (k.types ++ own) (λ u x there. get_front k.types own u x there) t form is, λ yet text u there same. head_complete k head text u there)) e;
    }

-- its variables are created once, and it fits
created_so : (inner z : Known) (cs : List Creation) → Creates inner z cs → fits.creates_from (length z.variables) (length inner.variables) cs ≡ true
created_so inner z cs c =
    let n = length z.variables in
    sym (ap (λ es. fits.creates_from n (length inner.variables) es) (append-nil cs)) ∙ (c.in_order n [] ∙ eq-eqb n n refl)

pub body_is : (inner z : Known) (fs : StmtsForm) (hs : HandlersForm) (start last : Spot) → Sound z → length z.here.modes ≡ length inner.variables → Creates inner z (fits.created_in (body_of z fs hs start last)) → declarations_fit z.types z.variables z.here.elaborated ≡ true → stmts_fit z.types z.variables z.texts z.exceptions (callables z.bodies) false fs ≡ true → handlers_fit z.types z.variables z.texts z.exceptions (callables z.bodies) false hs ≡ true → fits.body_fits z.types z.texts z.exceptions (callables z.bodies) (body_of z fs hs start last) ≡ true
body_is inner z fs hs start last s first c declares own handled =
    let b = body_of z fs hs start last in
    let held = list_all (fits.variable_fits z.types) z.variables in
    let created = fits.creates_from (length z.variables) (length z.here.modes) (fits.created_in b) in
    let created_is : created ≡ true =
    ap (λ v. fits.creates_from (length z.variables) v (fits.created_in b)) first ∙ created_so inner z (fits.created_in b) c in
    let part = declarations_fit z.types z.variables z.here.elaborated in
    let stated = stmts_fit z.types z.variables z.texts z.exceptions (callables z.bodies) false fs in
    both_parts (held && created && part && stated) (handlers_fit z.types z.variables z.texts z.exceptions (callables z.bodies) false hs)
    (both_parts (held && created && part) stated
    (both_parts (held && created) part (both_parts held created s.variables_fit created_is) declares) own) handled

-- it creates the collections of the access types in it that no body in it creates
pub created_between : (k inner z : Known) (cs : List Creation) → ((a : ℕ) → accesses inner.types a ≡ accesses k.types a) → inner.bodies ≡ k.bodies → Creates inner z cs → (a : ℕ) → accesses k.types a + collected a cs + bodies_collect z.bodies a ≡ accesses z.types a + bodies_collect k.bodies a
created_between k inner z cs types bodies c a = rw (sym (types a), sym bodies) (c.collections a)

-- what is known behind it
pub record BodyBehind (k next z : Known) : Type 0 where
  pub order : InOrder next
  pub ended : Ended z → Ended next

pub body_behind : (k z : Known) (head : HeadTree) (fs : StmtsForm) (hs : HandlersForm) (start last : Spot) → Sound k → Late k → InBody (around_body k head) z → ((a : ℕ) → accesses k.types a + collected a (fits.created_in (body_of z fs hs start last)) + bodies_collect z.bodies a ≡ accesses z.types a + bodies_collect k.bodies a) → fits.body_fits z.types z.texts z.exceptions (callables z.bodies) (body_of z fs hs start last) ≡ true → body_frees_own z.types (body_of z fs hs start last) ≡ true → list_all (fits.creates_known_pool (length z.pools)) (fits.created_in (body_of z fs hs start last)) ≡ true → BodyBehind k (body_ended head.name fs hs start last z) z
body_behind k z head fs hs start last s w f creates fit own pools =
    let k1 = around_body k head in
    let b = body_of z fs hs start last in
    let next = body_ended head.name fs hs start last z in
    let behind = closed_body k1 z head.name.text b in
    let so : next ≡ behind = ended_is k1 z head.name fs hs start last f in
    let same : forms behind.types ≡ forms z.types = if_forms (operation_named head.name.text) (next_procedure z) (operand_at z) z.types in
    let as_long : length behind.types ≡ length z.types = sym (forms_length behind.types) ∙ (ap (λ (ts : List TypeForm). length ts) same ∙ forms_length z.types) in
    let some : no_body_yet next ≡ true → ⊥ = body_ended_some k1 z head.name fs hs start last (around_sound k head s) f in
    let settled : (ts : List TypeForm) → ((t : ℕ) (form : TypeForm) → slice_get (forms behind.types) t ≡ Some form → IsSettled behind t → slice_get (forms ts) t ≡ Some form) → AreIn (forms z.types) (forms ts) =
    λ ts more t form is. more t form (ap (λ (fs : List TypeForm). slice_get fs t) same ∙ is) (λ yet. absurd (some (ap (λ (v : Known). no_body_yet v) so ∙ yet))) in
    record {
      order = late (subst Late (sym so) (body_late k z head b s w f.types (λ i x is. f.bodies i x is) (longer k.pools z.pools f.pools) creates))
          (false_from_ne_true (types_go_on next) (λ on. some (second_part (no_variable_yet next) (no_body_yet next) on)));
      ended = λ done. subst Ended (sym so) (record {
        fit = λ ts laid more.
            let all = settled ts more in
            one_body_more ts z.texts z.exceptions [] z.bodies b (done.fit ts laid (λ t form is settled. all t form is))
            (body_later z.types ts z.texts z.texts z.exceptions z.exceptions all (sound_laid z f.sound) (omega arith) (omega arith) (callables z.bodies) b fit);
        below = λ a past.
            let front = done.below a (omega (arith, past, as_long)) in
            let none = accesses_past z.types a (omega (arith, past, as_long)) in
            let all = creates a in
            let least = collect_least k.bodies z.bodies (λ i x is. f.bodies i x is) a in
            let both = created_more a z.bodies b in
            omega (arith, front, none, all, least, both);
        frees = λ ts more.
            let all = settled ts more in
            all_more (body_frees_own ts) z.bodies (b ∷ []) (done.frees ts (λ t form is yet. all t form is))
            (both_parts (body_frees_own ts b) true (body_frees z.types ts all b own) refl);
        pools = bodies_known (length z.pools) z.bodies b done.pools pools;
      });
    }
