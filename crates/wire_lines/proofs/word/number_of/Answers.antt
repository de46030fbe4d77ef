use Rattle.std.proofs.Common.{◌≡◌, ◌∙◌, ◌^◌, ◌<◌, ◌+◌, ◌*◌, ◌++◌, ◌∷◌, ℕ, List, [], zero, suc, true, sym, subst, ap, decimal, arith, get_or, length, take}
use Rattle.std.specs.Char.{digit_value}
use Rattle.std.specs.Str.Parse.{AllDigits, digits_value}
use Rattle.std.proofs.lemmas.Fmt.{first_decimal, decimal_digit, decimal-digits_value, digits_decimal, digits_value-decimal}
use Rattle.std.proofs.lemmas.Int.Digits.{digits_value_push}
use Rattle.std.proofs.lemmas.List.{take_all, take_more}
use Rattle.std.proofs.lemmas.Str.{digit_value_digit}
use Rattle.std.proofs.lemmas.Str.Parse.{IsNumeralModel, numerals_by_value, tells_digits, digit_at, digits_value-take-le}
use Rattle.wire_lines.proofs.word.number_of.Goals as goal

own : IsNumeralModel (AllDigits 10) (digits_value 10)
own = numerals_by_value _ tells_digits

some : (ds : List ℕ) → 48 < get_or ds 0 0 → 0 < length ds
some [] h = absurd (omega (arith, h))
some (d ∷ ds) h = omega arith

-- The decimal digits of a number aren't none, and begin with a zero only if that is all of them.
digits_begin : (n : ℕ) → n < 2 ^ 64 → (0 < length (decimal n)) × (get_or (decimal n) 0 0 ≡ 48 → length (decimal n) ≡ 1)
digits_begin zero small = rw (decimal_digit zero (omega arith)) (omega arith, λ is. λ i. 1)
digits_begin (suc n) small =
    let first = first_decimal (suc n) (omega arith) small in
    (some (decimal (suc n)) first, λ is. omega arith)

-- one digit more
digits_more : (ds : List ℕ) (d : ℕ) → AllDigits 10 ds → digit_value d < 10 → AllDigits 10 (ds ++ d ∷ [])
digits_more [] d all digit = (digit, tt)
digits_more (e ∷ ds) d all digit = (all.0, digits_more ds d all.1 digit)

value_more : (ds : List ℕ) (i : ℕ) → i < length ds → digits_value 10 (take (i + 1) ds) ≡ digits_value 10 (take i ds) * 10 + digit_value (get_or ds i 0)
value_more ds i lt = ap (digits_value 10) (take_more ds i 0 lt) ∙ digits_value_push 10 (take i ds) (get_or ds i 0)

pub returns-then-not-begins_as_number-clause-none : goal.returns-then-not-begins_as_number-clause-none
returns-then-not-begins_as_number-clause-none c = λ n small is.
    let begins = digits_begin n (omega arith) in
    let true_is : c.begins_as_number.result ≡ true = c.begins_as_number.ensures.1 (rw is begins) in
    cc (c.if-not-begins_as_number.true, true_is)

pub returns-then-not-is_digit-clause-none : goal.returns-then-not-is_digit-clause-none
returns-then-not-is_digit-clause-none c = λ n small is.
    let all = subst (AllDigits 10) (sym is) (digits_decimal own n (omega arith)) in
    let true_is : c.is_digit.result ≡ true = c.is_digit.ensures.1 (digit_at c.args.word.now c.loop-byte.byte-index all c.loop-byte-test.true) in
    cc (c.if-not-is_digit.true, true_is)

pub returns-then-number-ge100000000-clause-none : goal.returns-then-number-ge100000000-clause-none
returns-then-number-ge100000000-clause-none c = λ n small is.
    let value = value_more c.args.word.now c.loop-byte.byte-index c.loop-byte-test.true in
    let part = digits_value-take-le 10 c.args.word.now (c.loop-byte.byte-index + 1) (omega arith) in
    let whole : digits_value 10 c.args.word.now ≡ n = ap (digits_value 10) is ∙ digits_value-decimal own n (omega arith) in
    omega (arith, value, part, whole, small, c.loop-byte.invariant.value, c.if-number-ge100000000.true)

pub loop-byte-preserved : goal.loop-byte-preserved
loop-byte-preserved c =
    let word = c.args.word.now in
    let i = c.loop-byte.byte-index in
    let within = c.is_digit.ensures.0 c.if-not-is_digit.false in
    let digit = digit_value_digit (get_or word i 0) within in
    let value = value_more word i c.loop-byte-test.true in
    record {
      digits = subst (AllDigits 10) (sym (take_more word i 0 c.loop-byte-test.true)) (digits_more (take i word) (get_or word i 0) c.loop-byte.invariant.digits (omega (arith, digit, within)));
      value = omega (arith, value, digit, c.loop-byte.invariant.value);
      small = omega (arith, digit, within, c.if-number-ge100000000.false);
    }

pub returns-clause-found : goal.returns-clause-found
returns-clause-found c =
    let word = c.args.word.now in
    let all : take c.loop-byte.byte-index word ≡ word = take_all c.loop-byte.byte-index word c.loop-byte-test.false in
    let begins = c.begins_as_number.ensures.0 c.if-not-begins_as_number.false in
    let value : c.loop-byte.number ≡ digits_value 10 word = c.loop-byte.invariant.value ∙ ap (digits_value 10) all in
    let digits = subst (AllDigits 10) all c.loop-byte.invariant.digits in
    (sym (decimal-digits_value own word digits begins.0 begins.1 (omega (arith, value, c.loop-byte.invariant.small))) ∙ ap decimal (sym value), c.loop-byte.invariant.small)
