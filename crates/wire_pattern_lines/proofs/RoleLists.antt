-- Words that list roles.
use Rattle.std.proofs.Common.{◌≡◌, ◌∙◌, ap, sym, refl, subst, ℕ, ◌<◌, List, [], ◌∷◌, true, false, true≢false, codes, length, arith}
use Rattle.std.specs.Prelude.{◌&&◌}
use Rattle.std.specs.List.{list_all, slice_split, join_with_byte}
use Rattle.std.specs.Borrow.{Bor}
use Rattle.std.proofs.lemmas.List.Splits.{join_with_byte-slice_split, length-slice_split}
use Rattle.wire_types.specs.Texts.{texts_of}
use Rattle.wire_lines.proofs.Colon.{and_left, and_right}
use Rattle.wire_lines.proofs.Joined.{comma, AllPlain, name_plain, cut_joined}
use Rattle.wire_runs.specs.Patterns.{Turns, InOrder, Round, Chosen}
use Rattle.wire_pattern_lines.specs.Said.{is_role_name, are_role_names, are_loop_roles, turn_words}

all_plain : (roles : List (List ℕ)) → list_all is_role_name roles ≡ true → AllPlain roles
all_plain [] h = tt
all_plain (role ∷ roles) h =
    (name_plain role (and_right _ _ (and_left _ _ (and_left _ _ (and_left _ _ h)))), all_plain roles (and_right _ _ h))

-- a word that lists roles is cut into them
pub cut_roles : (roles : List (List ℕ)) → are_role_names roles ≡ true → slice_split comma (join_with_byte 44 roles) ≡ roles
cut_roles [] h = absurd (true≢false (sym h))
cut_roles (role ∷ roles) h = cut_joined role roles (all_plain (role ∷ roles) h)

pub roles_once : (rs ss : List (List ℕ)) → are_role_names rs ≡ true → are_role_names ss ≡ true → join_with_byte 44 rs ≡ join_with_byte 44 ss → rs ≡ ss
roles_once rs ss lr ls e = sym (cut_roles rs lr) ∙ ap (slice_split comma) e ∙ cut_roles ss ls

pub round_names : (roles : List (List ℕ)) → are_loop_roles Round roles ≡ true → are_role_names roles ≡ true
round_names [] h = absurd (true≢false (sym h))
round_names (role ∷ []) h = rw h refl
round_names (role ∷ other ∷ roles) h = absurd (true≢false (sym h))

all_texts : (words : List (Bor (List ℕ))) → list_all (λ w. is_role_name w.now) words ≡ list_all is_role_name (texts_of words)
all_texts [] = refl
all_texts (w ∷ words) = ap (λ b. is_role_name w.now && b) (all_texts words)

some_names : (names : List (List ℕ)) → 0 < length names → list_all is_role_name names ≡ true → are_role_names names ≡ true
some_names [] some h = absurd (omega arith)
some_names (name ∷ names) some h = h

names_are : (names : List (List ℕ)) → are_role_names names ≡ true → list_all is_role_name names ≡ true
names_are [] h = refl
names_are (name ∷ names) h = h

-- a word whose parts may name roles lists them
pub listed : (word : List ℕ) (parts : List (Bor (List ℕ))) → texts_of parts ≡ slice_split comma word → true ≡ list_all (λ w. is_role_name w.now) parts
    → (word ≡ join_with_byte 44 (texts_of parts)) × (are_role_names (texts_of parts) ≡ true)
listed word parts cut all = (
  sym (join_with_byte-slice_split 44 word) ∙ ap (join_with_byte 44) (sym cut),
  some_names (texts_of parts) (let l = length-slice_split comma word in let k : length (texts_of parts) ≡ length (slice_split comma word) = ap length cut in omega arith)
      (sym (all_texts parts) ∙ sym all),
)

-- a word with another part lists none
pub no_roles : (word : List ℕ) (parts : List (Bor (List ℕ))) → texts_of parts ≡ slice_split comma word → false ≡ list_all (λ w. is_role_name w.now) parts
    → (roles : List (List ℕ)) → are_role_names roles ≡ true → word ≡ join_with_byte 44 roles → ⊥
no_roles word parts cut none roles named e =
    let same : texts_of parts ≡ roles = cut ∙ ap (slice_split comma) e ∙ cut_roles roles named in
    true≢false (sym (names_are roles named) ∙ ap (list_all is_role_name) (sym same) ∙ sym (all_texts parts) ∙ sym none)

-- a word that names no role, before `cyclic`, begins no loop
pub no_round : (first second : List ℕ) → second ≡ codes "cyclic" → is_role_name first ≡ false
    → (turns : Turns) (roles : List (List ℕ)) → are_loop_roles turns roles ≡ true → first ∷ second ∷ [] ≡ turn_words turns roles → ⊥
no_round first second is other InOrder roles l e = absurd (cc)
no_round first second is other Round [] l e = true≢false (sym l)
no_round first second is other Round (role ∷ []) l e =
    let same : first ≡ role = cc in true≢false (sym l ∙ ap is_role_name (sym same) ∙ other)
no_round first second is other Round (role ∷ next ∷ roles) l e = true≢false (sym l)
no_round first second is other Chosen roles l e =
    let word : codes "cyclic" ≡ join_with_byte 44 roles = cc in
    let same : codes "cyclic" ∷ [] ≡ roles = ap (slice_split comma) word ∙ cut_roles roles l in
    let bad : are_role_names (codes "cyclic" ∷ []) ≡ true = subst (λ rs. are_role_names rs ≡ true) (sym same) l in
    true≢false (sym bad)
