-- The words of a question, read.
use Rattle.std.proofs.Common.{◌≡◌, ◌∙◌, ap, sym, subst, ℕ, ◌+◌, ◌<◌, ◌^◌, List, Option, Some, None, Ok, decimal, arith}
use Rattle.std.proofs.lemmas.Fmt.{decimal_injective}
use Rattle.std.proofs.lemmas.Option.{same_Some}
use Rattle.wire_types.specs.declared.CallAt.{CallAt}
use Rattle.wire_scripts.specs.Scripts.{Scripts}
use Rattle.wire_reader.specs.Order.{proc_named}
use Rattle.wire_reader.specs.Question.{IsCallNumber, IsCallNamed, IsProcWrong, IsNumberWrong, QuestionReads, Asks, First, Second, Third, Fourth, OneQuestion, calls_made}

same_number : (word : List ℕ) (count a b : ℕ) → IsCallNumber word count a → IsCallNumber word count b → a ≡ b
same_number word count a b h k =
    let small_a = h.short in
    let small_b = k.short in
    let same = decimal_injective (a + 1) (b + 1) (omega (arith, small_a)) (omega (arith, small_b)) (sym h.spelled ∙ k.spelled) in
    omega (arith, same)

-- the one call of which a word can be the number
call_of_number : (word : List ℕ) (number count call : ℕ) → word ≡ decimal number → number < 10 ^ 9 → IsCallNumber word count call → number ≡ call + 1
call_of_number word number count call is small h =
    let short = h.short in
    decimal_injective number (call + 1) (omega (arith, small)) (omega (arith, short)) (sym is ∙ h.spelled)

pub not_zero : (word : List ℕ) (number count : ℕ) → word ≡ decimal number → number < 10 ^ 9 → number ≡ 0 → (call : ℕ) → IsCallNumber word count call → ⊥
not_zero word number count is small none call h = let same = call_of_number word number count call is small h in omega (arith, same, none)

pub not_past : (word : List ℕ) (number count : ℕ) → word ≡ decimal number → number < 10 ^ 9 → count < number → (call : ℕ) → IsCallNumber word count call → ⊥
not_past word number count is small past call h =
    let same = call_of_number word number count call is small h in
    let low = h.there in
    omega (arith, same, low, past)

pub number_wrong : (s : Scripts) (proc bytes number : List ℕ) (found : Option ℕ) (p count : ℕ) → bytes ≡ proc → Some p ≡ found → found ≡ proc_named s bytes → count ≡ calls_made s p →
    ((call : ℕ) → IsCallNumber number count call → ⊥) → IsNumberWrong s proc number
number_wrong s proc bytes number found p count same here named counted none = record {
  p = p;
  named = ap (proc_named s) (sym same) ∙ sym (here ∙ named);
  none = λ call h. none call (subst (λ n. IsCallNumber number n call) (sym counted) h);
}

same_call : (x y : CallAt) → x.proc.number ≡ y.proc.number → x.call ≡ y.call → x ≡ y
same_call x y p c = λ t. record { proc = record { number = p t }; call = c t }

no_process : {p : ℕ} (o : Option ℕ) → o ≡ None → o ≡ Some p → ⊥
no_process None e f = cc
no_process (Some q) e f = cc

module _ (s : Scripts) (p n : List ℕ) where
  -- two words name one call
  named_once : (x y : CallAt) → IsCallNamed s p n x → IsCallNamed s p n y → x ≡ y
  named_once x y h k =
      let procs = same_Some _ _ (sym h.named ∙ k.named) in
      same_call x y procs (same_number n (calls_made s y.proc.number) x.call y.call (subst (λ q. IsCallNumber n (calls_made s q) x.call) procs h.numbered) k.numbered)

  not_proc : {x : CallAt} → IsCallNamed s p n x → IsProcWrong s p → ⊥
  not_proc h w = no_process (proc_named s p) w h.named

  not_number : {x : CallAt} → IsCallNamed s p n x → IsNumberWrong s p n → ⊥
  not_number {x} h w =
      let procs = same_Some _ _ (sym h.named ∙ w.named) in
      w.none x.call (subst (λ q. IsCallNumber n (calls_made s q) x.call) procs h.numbered)

  not_both : IsProcWrong s p → IsNumberWrong s p n → ⊥
  not_both w v = no_process (proc_named s p) w v.named

pub one_question : OneQuestion
one_question s p n q m a b first second = go first second
  where
    go : QuestionReads s p n q m a → QuestionReads s p n q m b → a ≡ b
    go (Asks x y h k e) (Asks x' y' h' k' f) = e ∙ (λ t. Ok (named_once s p n x x' h h' t, named_once s q m y y' k k' t)) ∙ sym f
    go (Asks x y h k e) (First w f) = absurd (not_proc s p n h w)
    go (Asks x y h k e) (Second w f) = absurd (not_number s p n h w)
    go (Asks x y h k e) (Third x' h' w f) = absurd (not_proc s q m k w)
    go (Asks x y h k e) (Fourth x' h' w f) = absurd (not_number s q m k w)
    go (First w e) (Asks x y h k f) = absurd (not_proc s p n h w)
    go (First w e) (First v f) = e ∙ sym f
    go (First w e) (Second v f) = absurd (not_both s p n w v)
    go (First w e) (Third x h v f) = absurd (not_proc s p n h w)
    go (First w e) (Fourth x h v f) = absurd (not_proc s p n h w)
    go (Second w e) (Asks x y h k f) = absurd (not_number s p n h w)
    go (Second w e) (First v f) = absurd (not_both s p n v w)
    go (Second w e) (Second v f) = e ∙ sym f
    go (Second w e) (Third x h v f) = absurd (not_number s p n h w)
    go (Second w e) (Fourth x h v f) = absurd (not_number s p n h w)
    go (Third x h w e) (Asks x' y h' k f) = absurd (not_proc s q m k w)
    go (Third x h w e) (First v f) = absurd (not_proc s p n h v)
    go (Third x h w e) (Second v f) = absurd (not_number s p n h v)
    go (Third x h w e) (Third x' h' v f) = e ∙ sym f
    go (Third x h w e) (Fourth x' h' v f) = absurd (not_both s q m w v)
    go (Fourth x h w e) (Asks x' y h' k f) = absurd (not_number s q m k w)
    go (Fourth x h w e) (First v f) = absurd (not_proc s p n h v)
    go (Fourth x h w e) (Second v f) = absurd (not_number s p n h v)
    go (Fourth x h w e) (Third x' h' v f) = absurd (not_both s q m v w)
    go (Fourth x h w e) (Fourth x' h' v f) = e ∙ sym f
