-- Which calls are fences tells where each call stands among the events; and the events tell which are.
use Rattle.std.proofs.Common.{◌≡◌, ◌∙◌, ap, sym, refl, ℕ, List, [], ◌∷◌, Bool, true, false, length, map, take}
use Rattle.std.proofs.lemmas.List.{length-map, take-map}
use Rattle.wire_runs.specs.Plan.{Call, CallPut, CallCommit, CallFence, CallGet, CallGetNow, CallPublish, CallLookup, CallLookupWait, CallUnpublish, CallUnpublishAll, CallFixed}
use Rattle.wire_runs.specs.Plan.{Kind, Put, Commit, Arrive, Leave, Get, GetNow, Publish, Lookup, LookupWait, Unpublish, UnpublishAll, Fixed, kinds_of}
use Rattle.wire_runs.specs.Placings.{without_reply}
use Rattle.wire_runs.specs.Embeddings.{Renaming, image_kind}
use Rattle.wire_pattern_answers.proofs.Rows.{place}

abbrev pub is_fence : Call → Bool
is_fence (CallFence members collect) = true
is_fence _ = false

abbrev pub is_leave : Kind → Bool
is_leave (Leave members) = true
is_leave _ = false

-- of each event of such calls whether it leaves a fence
abbrev pub leaves_of : List Bool → List Bool
leaves_of [] = []
leaves_of (true ∷ fences) = false ∷ (true ∷ leaves_of fences)
leaves_of (false ∷ fences) = false ∷ leaves_of fences

pub leaves_are : (calls : List Call) → map is_leave (kinds_of calls) ≡ leaves_of (map is_fence calls)
leaves_are [] = refl
leaves_are (CallPut key scope ∷ calls) = ap (λ ls. false ∷ ls) (leaves_are calls)
leaves_are (CallCommit ∷ calls) = ap (λ ls. false ∷ ls) (leaves_are calls)
leaves_are (CallFence members collect ∷ calls) = ap (λ ls. false ∷ (true ∷ ls)) (leaves_are calls)
leaves_are (CallGet owner key ∷ calls) = ap (λ ls. false ∷ ls) (leaves_are calls)
leaves_are (CallGetNow owner key ∷ calls) = ap (λ ls. false ∷ ls) (leaves_are calls)
leaves_are (CallPublish name ∷ calls) = ap (λ ls. false ∷ ls) (leaves_are calls)
leaves_are (CallLookup name ∷ calls) = ap (λ ls. false ∷ ls) (leaves_are calls)
leaves_are (CallLookupWait name ∷ calls) = ap (λ ls. false ∷ ls) (leaves_are calls)
leaves_are (CallUnpublish name ∷ calls) = ap (λ ls. false ∷ ls) (leaves_are calls)
leaves_are (CallUnpublishAll ∷ calls) = ap (λ ls. false ∷ ls) (leaves_are calls)
leaves_are (CallFixed reply ∷ calls) = ap (λ ls. false ∷ ls) (leaves_are calls)

rest_of : List Bool → List Bool
rest_of [] = []
rest_of (b ∷ bs) = bs

rest_same : (b c : Bool) (bs cs : List Bool) → b ∷ bs ≡ c ∷ cs → bs ≡ cs
unfolding rest_of
rest_same b c bs cs e = ap rest_of e

-- the first event leaves none
none_first : (fences bs : List Bool) → true ∷ bs ≡ leaves_of fences → ⊥
none_first [] bs e = cc
none_first (true ∷ fences) bs e = cc
none_first (false ∷ fences) bs e = cc

pub one_list : (xs ys : List Bool) → leaves_of xs ≡ leaves_of ys → xs ≡ ys
one_list [] [] e = refl
one_list [] (true ∷ ys) e = absurd cc
one_list [] (false ∷ ys) e = absurd cc
one_list (true ∷ xs) [] e = absurd cc
one_list (false ∷ xs) [] e = absurd cc
one_list (true ∷ xs) (true ∷ ys) e = ap (λ bs. true ∷ bs) (one_list xs ys (rest_same true true (leaves_of xs) (leaves_of ys) (rest_same false false _ _ e)))
one_list (false ∷ xs) (false ∷ ys) e = ap (λ bs. false ∷ bs) (one_list xs ys (rest_same false false _ _ e))
one_list (true ∷ xs) (false ∷ ys) e = absurd (none_first ys (leaves_of xs) (rest_same false false (true ∷ leaves_of xs) (leaves_of ys) e))
one_list (false ∷ xs) (true ∷ ys) e = absurd (none_first xs (leaves_of ys) (sym (rest_same false false (leaves_of xs) (true ∷ leaves_of ys) e)))

-- the number of a call's first event
abbrev pub place_by : List Bool → ℕ → ℕ
place_by fences c = length (leaves_of (take c fences))

pub place_is : (calls : List Call) (c : ℕ) → place calls c ≡ place_by (map is_fence calls) c
place_is calls c =
    sym (length-map (kinds_of (take c calls)) is_leave) ∙ ap length (leaves_are (take c calls))
    ∙ ap (λ fences. length (leaves_of fences)) (sym (take-map is_fence c calls))

-- numbers of keys, and replies, say nothing of it
reply_blind : (k : Kind) → is_leave (without_reply k) ≡ is_leave k
reply_blind (Fixed reply) = refl
reply_blind _ = refl

pub leaves_without : (ks : List Kind) → map is_leave (map without_reply ks) ≡ map is_leave ks
leaves_without [] = refl
leaves_without (k ∷ ks) = ap (λ b. b ∷ map is_leave (map without_reply ks)) (reply_blind k) ∙ ap (λ bs. is_leave k ∷ bs) (leaves_without ks)

pub image_blind : (to : Renaming) (k : Kind) → is_leave (image_kind to k) ≡ is_leave k
image_blind to (Put key scope) = refl
image_blind to Commit = refl
image_blind to (Arrive members collect) = refl
image_blind to (Leave members) = refl
image_blind to (Get owner key) = refl
image_blind to (GetNow owner key) = refl
image_blind to (Publish name) = refl
image_blind to (Lookup name) = refl
image_blind to (LookupWait name) = refl
image_blind to (Unpublish name) = refl
image_blind to UnpublishAll = refl
image_blind to (Fixed reply) = refl

pub leaves_image : (to : Renaming) (ks : List Kind) → map is_leave (map (image_kind to) ks) ≡ map is_leave ks
leaves_image to [] = refl
leaves_image to (k ∷ ks) = ap (λ b. b ∷ map is_leave (map (image_kind to) ks)) (image_blind to k) ∙ ap (λ bs. is_leave k ∷ bs) (leaves_image to ks)
