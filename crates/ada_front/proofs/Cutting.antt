-- A list is cut behind its last element that has begun, and of that one is left what is put in its place.

use Rattle.std.proofs.Common.{◌≡◌, ℕ, suc, ◌+◌, Bool, true, false, not, List, [], ◌∷◌, ◌++◌, Option, length, take, cond, arith, refl, ap, sym, ◌∙◌}
use Rattle.std.specs.Prelude.{if◌then◌else◌, option_to_list}
use Rattle.std.specs.List.{prefix_len}
use Rattle.ada_text.specs.declared.spot.Spot.{Spot}
use Rattle.ada_tree.specs.declared.declarations.Declaration.{Declaration}
use Rattle.ada_tree.specs.declared.statements.Branch.{Branch}
use Rattle.ada_tree.specs.declared.statements.Handler.{Handler}
use Rattle.ada_tree.specs.declared.statements.Statement.{Statement}
use Rattle.ada_tree.specs.Statements.{DeclarationsTree, no_declarations, a_declaration, StatementsTree, no_statements, a_statement, BranchesTree, no_branches, a_branch, HandlersTree, no_handlers, a_handler}
use Rattle.ada_tree.specs.StatementView.{branch_of, declaration_of, declarations_of, handler_of, statement_of, statements_of}
use Rattle.ada_front.specs.Front.{branches_before, declaration_before, declarations_before, handlers_before, left_branch, left_handler, stands_before, statement_before, statements_before}
use Rattle.ada_front.specs.Spots.{declaration_start, expression_start, statement_start}
use Rattle.ada_front.specs.View.{branch_begun, branches_of, declaration_begun, handler_begun, handlers_of, statement_begun}

-- What a cut of a list is: those up to the last one that has begun stay, and of that one what is left of it.
pub record IsCut {A T : Type 0} (begun : A → Bool) (view before : List A → T) (joined : A → T → T) (one : A → T) : Type 0 where
  pub next : (x : A) (xs : List A) → view (x ∷ xs) ≡ joined x (view xs)
  pub none : before [] ≡ view []
  pub behind : (x : A) (xs : List A) → begun x ≡ false → before (x ∷ xs) ≡ view []
  pub end : (x : A) → begun x ≡ true → before (x ∷ []) ≡ one x
  pub last : (x y : A) (ys : List A) → begun x ≡ true → begun y ≡ false → before (x ∷ y ∷ ys) ≡ one x
  pub more : (x y : A) (ys : List A) → begun x ≡ true → begun y ≡ true → before (x ∷ y ∷ ys) ≡ joined x (before (y ∷ ys))

take_one : {A : Type 0} (n : ℕ) (x : A) (xs : List A) → take (1 + n) (x ∷ xs) ≡ x ∷ take n xs
take_one n x xs =
    let e : 1 + n ≡ suc n = omega arith in
    ap (λ (k : ℕ). take k (x ∷ xs)) e

-- The first one has begun.
taken : {A : Type 0} (p : A → Bool) (x : A) (xs : List A) → p x ≡ true → take (prefix_len p (x ∷ xs)) (x ∷ xs) ≡ x ∷ take (prefix_len p xs) xs
taken p x xs e = ap (λ (b : Bool). take (cond b (1 + prefix_len p xs) 0) (x ∷ xs)) e ∙ take_one (prefix_len p xs) x xs

-- It has not.
untaken : {A : Type 0} (p : A → Bool) (x : A) (xs : List A) → p x ≡ false → take (prefix_len p (x ∷ xs)) (x ∷ xs) ≡ []
untaken p x xs e = ap (λ (b : Bool). take (cond b (1 + prefix_len p xs) 0) (x ∷ xs)) e

nothing_last : {A : Type 0} {B : Type 0} (xs : List A) (x : A) → [] ≡ xs ++ x ∷ [] → B
nothing_last [] x e = absurd (cc e)
nothing_last (y ∷ ys) x e = absurd (cc e)

alone : {A T : Type 0} (begun : A → Bool) (view before : List A → T) (joined : A → T → T) (one : A → T)
    → IsCut begun view before joined one → (x : A) (rest left : List A) (last : A) (b : Bool) → begun x ≡ b
    → take (prefix_len begun (x ∷ [])) (x ∷ []) ≡ rest ++ last ∷ [] → view left ≡ one last → view (rest ++ left) ≡ before (x ∷ [])
alone begun view before joined one cut x rest left last false b is e = nothing_last rest last (sym (untaken begun x [] b) ∙ is)
alone begun view before joined one cut x [] left last true b is e =
    let first : x ∷ [] ≡ last ∷ [] = sym (taken begun x [] b) ∙ is in
    let same : last ≡ x = cc first in
    e ∙ ap one same ∙ sym (cut.end x b)
alone begun view before joined one cut x (r ∷ rs) left last true b is e =
    let first : x ∷ [] ≡ r ∷ (rs ++ last ∷ []) = sym (taken begun x [] b) ∙ is in
    let tail : [] ≡ rs ++ last ∷ [] = cc first in
    nothing_last rs last tail

among : {A T : Type 0} (begun : A → Bool) (view before : List A → T) (joined : A → T → T) (one : A → T)
    → IsCut begun view before joined one → (x y : A) (ys rest left : List A) (last : A) (b c : Bool) → begun x ≡ b → begun y ≡ c
    → ((others : List A) → take (prefix_len begun (y ∷ ys)) (y ∷ ys) ≡ others ++ last ∷ [] → view (others ++ left) ≡ before (y ∷ ys))
    → take (prefix_len begun (x ∷ y ∷ ys)) (x ∷ y ∷ ys) ≡ rest ++ last ∷ [] → view left ≡ one last → view (rest ++ left) ≡ before (x ∷ y ∷ ys)
among begun view before joined one cut x y ys rest left last false c b d more is e = nothing_last rest last (sym (untaken begun x (y ∷ ys) b) ∙ is)
among begun view before joined one cut x y ys [] left last true true b d more is e =
    let first : x ∷ y ∷ take (prefix_len begun ys) ys ≡ last ∷ [] = ap (λ zs. x ∷ zs) (sym (taken begun y ys d)) ∙ sym (taken begun x (y ∷ ys) b) ∙ is in
    absurd (cc first)
among begun view before joined one cut x y ys [] left last true false b d more is e =
    let first : x ∷ [] ≡ last ∷ [] = ap (λ zs. x ∷ zs) (sym (untaken begun y ys d)) ∙ sym (taken begun x (y ∷ ys) b) ∙ is in
    let same : last ≡ x = cc first in
    e ∙ ap one same ∙ sym (cut.last x y ys b d)
among begun view before joined one cut x y ys (r ∷ rs) left last true true b d more is e =
    let first : x ∷ take (prefix_len begun (y ∷ ys)) (y ∷ ys) ≡ r ∷ (rs ++ last ∷ []) = sym (taken begun x (y ∷ ys) b) ∙ is in
    let same : r ≡ x = cc first in
    let tail : take (prefix_len begun (y ∷ ys)) (y ∷ ys) ≡ rs ++ last ∷ [] = cc first in
    cut.next r (rs ++ left) ∙ ap (joined r) (more rs tail) ∙ ap (λ z. joined z (before (y ∷ ys))) same ∙ sym (cut.more x y ys b d)
among begun view before joined one cut x y ys (r ∷ rs) left last true false b d more is e =
    let first : x ∷ [] ≡ r ∷ (rs ++ last ∷ []) = ap (λ zs. x ∷ zs) (sym (untaken begun y ys d)) ∙ sym (taken begun x (y ∷ ys) b) ∙ is in
    let tail : [] ≡ rs ++ last ∷ [] = cc first in
    nothing_last rs last tail

-- What is left of the last one stands in its place.
pub put_in_place : {A T : Type 0} (begun : A → Bool) (view before : List A → T) (joined : A → T → T) (one : A → T)
    → IsCut begun view before joined one → (xs rest left : List A) (last : A)
    → take (prefix_len begun xs) xs ≡ rest ++ last ∷ [] → view left ≡ one last → view (rest ++ left) ≡ before xs
put_in_place begun view before joined one cut [] rest left last is e = nothing_last rest last is
put_in_place begun view before joined one cut (x ∷ []) rest left last is e =
    alone begun view before joined one cut x rest left last (begun x) refl is e
put_in_place begun view before joined one cut (x ∷ y ∷ ys) rest left last is e =
    among begun view before joined one cut x y ys rest left last (begun x) (begun y) refl refl
    (λ others same. put_in_place begun view before joined one cut (y ∷ ys) others left last same e) is e

none_begun : {A T : Type 0} (begun : A → Bool) (view before : List A → T) (joined : A → T → T) (one : A → T)
    → IsCut begun view before joined one → (x : A) (xs : List A) (b : Bool) → begun x ≡ b
    → take (prefix_len begun (x ∷ xs)) (x ∷ xs) ≡ [] → view [] ≡ before (x ∷ xs)
none_begun begun view before joined one cut x xs true b is =
    let first : x ∷ take (prefix_len begun xs) xs ≡ [] = sym (taken begun x xs b) ∙ is in
    absurd (cc first)
none_begun begun view before joined one cut x xs false b is = sym (cut.behind x xs b)

-- None has begun, so nothing is left.
pub nothing_begun : {A T : Type 0} (begun : A → Bool) (view before : List A → T) (joined : A → T → T) (one : A → T)
    → IsCut begun view before joined one → (xs : List A) → take (prefix_len begun xs) xs ≡ [] → view [] ≡ before xs
nothing_begun begun view before joined one cut [] is = sym cut.none
nothing_begun begun view before joined one cut (x ∷ xs) is = none_begun begun view before joined one cut x xs (begun x) refl is

cut_to : {A : Type 0} (begun : A → Bool) (xs ys t : List A) (n : ℕ) → ys ≡ xs → n ≡ prefix_len begun ys → t ≡ take n xs → take (prefix_len begun xs) xs ≡ t
cut_to begun xs ys t n same counted cut =
    ap (λ (zs : List _). take (prefix_len begun zs) xs) (sym same) ∙ ap (λ (m : ℕ). take m xs) (sym counted) ∙ sym cut

-- As the code does it: the last one is taken, and what is left of it is put back.
pub last_cut : {A T : Type 0} {begun : A → Bool} {view before : List A → T} {joined : A → T → T} {one : A → T}
    → IsCut begun view before joined one → (xs ys t rest new : List A) (left : Option A) (last : A) (n : ℕ)
    → ys ≡ xs → n ≡ prefix_len begun ys → t ≡ take n xs → t ≡ rest ++ last ∷ [] → new ≡ rest ++ option_to_list left
    → view (option_to_list left) ≡ one last → view new ≡ before xs
last_cut {A} {T} {begun} {view} {before} {joined} {one} cut xs ys t rest new left last n same counted taken parts is e =
    ap view is ∙
    put_in_place begun view before joined one cut xs rest (option_to_list left) last (cut_to begun xs ys t n same counted taken ∙ parts) e

no_items : {A : Type 0} (xs : List A) (n : ℕ) → n ≡ length xs → n ≡ 0 → xs ≡ []
no_items [] n e z = refl
no_items (x ∷ xs) n e z = absurd (omega (arith, e, z))

-- None is there to be taken.
pub none_cut : {A T : Type 0} {begun : A → Bool} {view before : List A → T} {joined : A → T → T} {one : A → T}
    → IsCut begun view before joined one → (xs ys t rest : List A) (n m k : ℕ)
    → ys ≡ xs → n ≡ prefix_len begun ys → t ≡ take n xs → m ≡ length t → m ≡ 0 → k ≡ length rest → k ≡ 0 → view rest ≡ before xs
none_cut {A} {T} {begun} {view} {before} {joined} {one} cut xs ys t rest n m k same counted taken long none short nothing =
    ap view (no_items rest k short nothing) ∙
    nothing_begun begun view before joined one cut xs (cut_to begun xs ys t n same counted taken ∙ no_items t m long none)

-- Cuts of the lists of a tree.

if_true : {A : Type 0} (b : Bool) (x y : A) → not b ≡ false → (if b then x else y) ≡ x
if_true true x y e = refl
if_true false x y e = absurd (cc e)

if_false : {A : Type 0} (b : Bool) (x y : A) → not b ≡ true → (if b then x else y) ≡ y
if_false true x y e = absurd (cc e)
if_false false x y e = refl

if_not : {A : Type 0} (b : Bool) (x y : A) → b ≡ false → (if b then x else y) ≡ y
if_not true x y e = absurd (cc e)
if_not false x y e = refl

if_so : {A : Type 0} (b : Bool) (x y : A) → b ≡ true → (if b then x else y) ≡ x
if_so true x y e = refl
if_so false x y e = absurd (cc e)

-- Of declarations.
pub declarations_cut : (fault : Spot) → IsCut (declaration_begun fault) declarations_of (λ (xs : List Declaration). declarations_before fault (declarations_of xs)) (λ (x : Declaration) (rest : DeclarationsTree). a_declaration (declaration_of x) rest) (λ (x : Declaration). declaration_before fault (declaration_of x))
unfolding declarations_before
declarations_cut fault = record {
  next = λ x xs. refl;
  none = refl;
  behind = λ x xs b. if_true (stands_before fault (declaration_start (declaration_of x))) no_declarations _ b;
  end = λ x b. if_false (stands_before fault (declaration_start (declaration_of x))) no_declarations _ b;
  last = λ x y ys b c. if_false (stands_before fault (declaration_start (declaration_of x))) no_declarations _ b ∙ if_not (declaration_begun fault y) _ _ c;
  more = λ x y ys b c. if_false (stands_before fault (declaration_start (declaration_of x))) no_declarations _ b ∙ if_so (declaration_begun fault y) _ _ c;
}

-- Of statements.
pub statements_cut : (fault : Spot) → IsCut (statement_begun fault) statements_of (λ (xs : List Statement). statements_before fault (statements_of xs)) (λ (x : Statement) (rest : StatementsTree). a_statement (statement_of x) rest) (λ (x : Statement). statement_before fault (statement_of x))
unfolding statements_before
statements_cut fault = record {
  next = λ x xs. refl;
  none = refl;
  behind = λ x xs b. if_true (stands_before fault (statement_start (statement_of x))) no_statements _ b;
  end = λ x b. if_false (stands_before fault (statement_start (statement_of x))) no_statements _ b;
  last = λ x y ys b c. if_false (stands_before fault (statement_start (statement_of x))) no_statements _ b ∙ if_not (statement_begun fault y) _ _ c;
  more = λ x y ys b c. if_false (stands_before fault (statement_start (statement_of x))) no_statements _ b ∙ if_so (statement_begun fault y) _ _ c;
}

-- Of branches.
pub branches_cut : (fault : Spot) → IsCut (branch_begun fault) branches_of (λ (xs : List Branch). branches_before fault (branches_of xs)) (λ (x : Branch) (rest : BranchesTree). a_branch (branch_of x).condition (branch_of x).statements rest) (λ (x : Branch). left_branch (branch_of x).condition (statements_before fault (branch_of x).statements))
unfolding branches_before
branches_cut fault = record {
  next = λ x xs. refl;
  none = refl;
  behind = λ x xs b. if_true (stands_before fault (expression_start (branch_of x).condition)) no_branches _ b;
  end = λ x b. if_false (stands_before fault (expression_start (branch_of x).condition)) no_branches _ b;
  last = λ x y ys b c. if_false (stands_before fault (expression_start (branch_of x).condition)) no_branches _ b ∙ if_not (branch_begun fault y) _ _ c;
  more = λ x y ys b c. if_false (stands_before fault (expression_start (branch_of x).condition)) no_branches _ b ∙ if_so (branch_begun fault y) _ _ c;
}

-- Of handlers.
pub handlers_cut : (fault : Spot) → IsCut (handler_begun fault) handlers_of (λ (xs : List Handler). handlers_before fault (handlers_of xs)) (λ (x : Handler) (rest : HandlersTree). a_handler (handler_of x).spot (handler_of x).choices (handler_of x).statements rest) (λ (x : Handler). left_handler (handler_of x).spot (handler_of x).choices (statements_before fault (handler_of x).statements))
unfolding handlers_before
handlers_cut fault = record {
  next = λ x xs. refl;
  none = refl;
  behind = λ x xs b. if_true (stands_before fault ((handler_of x).spot)) no_handlers _ b;
  end = λ x b. if_false (stands_before fault ((handler_of x).spot)) no_handlers _ b;
  last = λ x y ys b c. if_false (stands_before fault ((handler_of x).spot)) no_handlers _ b ∙ if_not (handler_begun fault y) _ _ c;
  more = λ x y ys b c. if_false (stands_before fault ((handler_of x).spot)) no_handlers _ b ∙ if_so (handler_begun fault y) _ _ c;
}
