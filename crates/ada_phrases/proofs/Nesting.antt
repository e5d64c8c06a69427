-- What stands inside a level of nesting of declarations and statements.
use Rattle.std.proofs.Common.{◌≡◌, ℕ, zero, suc, ◌-◌, Bool, true, false, List, if◌then◌else◌, Ok, Err, refl, sym, ap, arith}
use Rattle.ada_text.specs.declared.spot.Spot.{Spot}
use Rattle.ada_text.specs.declared.word.Word.TheVariants as word
use Rattle.ada_text.specs.Token.{Kind, Lexeme, reserved}
use Rattle.ada_reader.specs.Step.{◌>>=◌, Outcome, Stopped, too_deep, allowed, fixed, opening_in, at}
use Rattle.ada_phrases.specs.Statements.{inner_at, statements_at, declarations_at, if_in, loop_in, scheme_at, block_in, declare_block_in, procedure_in, behind_name_in, behind_is_in}
use Rattle.ada_phrases.specs.Nesting.{inside_at}

-- without room an opening token is refused
abbrev Fails : {A : Type 0} → Outcome A → Type 0
Fails read = (e : Stopped) × (read ≡ Err e)

refused : (r : Outcome Spot) → Fails (r >>= allowed zero)
refused (Ok x) = (too_deep x.0, refl)
refused (Err e) = (e, refl)

shut : (k : Kind) (ts : List Lexeme) → Fails (opening_in zero k ts)
shut k ts = refused (fixed k ts)

pub if_inside : (room : ℕ) (ts : List Lexeme) → if_in room (inner_at room).statements ts ≡ if_in room (statements_at (room - 1)) ts
unfolding inner_at statements_at if_in
if_inside zero ts = let p = shut (reserved word.If) ts in rw p.1 refl
if_inside (suc room) ts =
    let e : suc room - 1 ≡ room = omega arith in
    ap (λ n. if_in (suc room) (statements_at n) ts) (sym e)

pub block_inside : (room : ℕ) (ts : List Lexeme) → block_in room (inner_at room).statements ts ≡ block_in room (statements_at (room - 1)) ts
unfolding inner_at statements_at block_in
block_inside zero ts = let p = shut (reserved word.Begin) ts in rw p.1 refl
block_inside (suc room) ts =
    let e : suc room - 1 ≡ room = omega arith in
    ap (λ n. block_in (suc room) (statements_at n) ts) (sym e)

pub declare_block_inside : (room : ℕ) (ts : List Lexeme) → declare_block_in room (inner_at room) ts ≡ declare_block_in room (inside_at (room - 1)) ts
unfolding inner_at statements_at declarations_at declare_block_in
declare_block_inside zero ts = let p = shut (reserved word.Declare) ts in rw p.1 refl
declare_block_inside (suc room) ts =
    let e : suc room - 1 ≡ room = omega arith in
    ap (λ n. declare_block_in (suc room) (inside_at n) ts) (sym e)

chosen : {A : Type 0} (b : Bool) (p q : Outcome A) → Fails p → Fails q → Fails (if b then p else q)
chosen true p q f g = f
chosen false p q f g = g

scheme_shut : (ts : List Lexeme) → Fails (scheme_at zero ts)
unfolding scheme_at
scheme_shut ts =
    let p = shut (reserved word.While) ts in
    let q = shut (reserved word.For) ts in
    let r = shut (reserved word.Loop) ts in
    chosen (at (reserved word.While) ts) _ _ (p.0, rw p.1 refl) (chosen (at (reserved word.For) ts) _ _ (q.0, rw q.1 refl) (r.0, rw r.1 refl))

pub loop_inside : (room : ℕ) (ts : List Lexeme) → loop_in room (inner_at room).statements ts ≡ loop_in room (statements_at (room - 1)) ts
unfolding inner_at statements_at loop_in
loop_inside zero ts = let p = scheme_shut ts in rw p.1 refl
loop_inside (suc room) ts =
    let e : suc room - 1 ≡ room = omega arith in
    ap (λ n. loop_in (suc room) (statements_at n) ts) (sym e)

pub procedure_inside : (room : ℕ) (ts : List Lexeme) → procedure_in room (inner_at room) ts ≡ procedure_in room (inside_at (room - 1)) ts
unfolding inner_at statements_at declarations_at procedure_in behind_name_in behind_is_in
procedure_inside zero ts = refl
procedure_inside (suc room) ts =
    let e : suc room - 1 ≡ room = omega arith in
    ap (λ n. procedure_in (suc room) (inside_at n) ts) (sym e)
