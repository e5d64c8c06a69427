use Rattle.std.proofs.Common.{◌≡◌, ◌∙◌, sym, ap, true, false}
use Rattle.std.specs.Char.{is_ascii_digit}
use Rattle.std.specs.List.{list_all}
use Rattle.ada_serve.proofs.Numbers.{not_digits, fitting, unreadable}
use Rattle.ada_serve.proofs.command_line.number.Goals as goal

pub returns-then-not-has_digits_alone : goal.returns-then-not-has_digits_alone
returns-then-not-has_digits_alone c =
    let other : list_all is_ascii_digit c.args.word.now ≡ false = ap (list_all is_ascii_digit) (sym c.as_bytes.ensures.value) ∙ sym c.has_digits_alone.ensures ∙ c.if-not-has_digits_alone.true in
    not_digits c.args.word.now other

pub returns-in_default : goal.returns-in_default
returns-in_default c =
    let digits : list_all is_ascii_digit c.args.word.now ≡ true = ap (list_all is_ascii_digit) (sym c.as_bytes.ensures.value) ∙ sym c.has_digits_alone.ensures ∙ c.if-not-has_digits_alone.false in
    unreadable c.args.word.now c.parse.result c.in_default.field-0 digits c.parse.ensures.value.0 c.in_default.is

pub returns : goal.returns
returns c =
    let digits : list_all is_ascii_digit c.args.word.now ≡ true = ap (list_all is_ascii_digit) (sym c.as_bytes.ensures.value) ∙ sym c.has_digits_alone.ensures ∙ c.if-not-has_digits_alone.false in
    fitting c.args.word.now c.parse.result c.in-Ok.number digits c.parse.ensures.value.0 c.in-Ok.is
