-- The kind of a key tells whether it is reserved, and what a get of it replies.
use Rattle.std.proofs.Common.{◌≡◌, ◌∙◌, ap, sym, refl, ℕ, ◌+◌, ◌<◌, Bool, true, false, List, [], ◌∷◌, ◌++◌, cond, codes, ◌≤◌, map, take, get_or, length, arith}
use Rattle.std.proofs.lemmas.List.{length-map, map_push, take_more}
use Rattle.std.specs.Prelude.{unwrap_or}
use Rattle.std.proofs.lemmas.Option.{slice_get_past, unwrap_or-slice_get}
use Rattle.std.specs.Str.{bytes_eq}
use Rattle.std.proofs.lemmas.Bool.{cond_both}
use Rattle.std.proofs.lemmas.Slice.Eq.{bytes_eq-Decides}
use Rattle.wire_types.specs.Replies.{bare, success_with}
use Rattle.wire_types.specs.declared.Status.TheVariants.{NotFound}
use Rattle.wire_types.specs.declared.Value.TheVariants.{Number, NodeName}
use Rattle.wire_types.specs.Said.{is_reserved}
use Rattle.wire_scripts.specs.Scripts.{Process, text_at}
use Rattle.wire_scripts.specs.Map.{job_at, node_at, rank_of, local_rank_of, node_rank_of, size_of_job}
use Rattle.wire_scripts.specs.Reserved.{reserved_reply}
use Rattle.wire_procmap.specs.declared.key.KeyKind.{KeyKind}
use Rattle.wire_procmap.specs.declared.key.KeyKind.TheVariants.{Plain, Rank, LocalRank, NodeRank, JobSize, Hostname, Other}
use Rattle.wire_procmap.specs.Keys.{key_kind, is_reserved_kind}
use Rattle.wire_procmap.specs.Rows.{row_of, reply_of}

-- what is spelled like a reserved key is reserved
spelled : (key word : List ℕ) → is_reserved word ≡ true → bytes_eq key word ≡ true → true ≡ is_reserved key
spelled key word r e = sym (ap is_reserved ((bytes_eq-Decides key word).0 e) ∙ r)

-- a test for the spelling of one reserved key
tested : (key word : List ℕ) (kind rest : KeyKind) → is_reserved word ≡ true → is_reserved_kind kind ≡ true → is_reserved_kind rest ≡ is_reserved key →
    is_reserved_kind (cond (bytes_eq key word) kind rest) ≡ is_reserved key
tested key word kind rest r k h =
    cond_both (bytes_eq key word) kind rest (λ x. is_reserved_kind x ≡ is_reserved key) (λ e. k ∙ spelled key word r e) (λ _. h)

others : (b : Bool) → is_reserved_kind (cond b Other Plain) ≡ b
others true = refl
others false = refl

pub reserved_of_kind : (key : List ℕ) → is_reserved_kind (key_kind key) ≡ is_reserved key
unfolding key_kind is_reserved
reserved_of_kind key =
    tested key (codes "PMIX_RANK") Rank _ refl refl
    (tested key (codes "PMIX_LOCAL_RANK") LocalRank _ refl refl
    (tested key (codes "PMIX_NODE_RANK") NodeRank _ refl refl
    (tested key (codes "PMIX_JOB_SIZE") JobSize _ refl refl
    (tested key (codes "PMIX_HOSTNAME") Hostname _ refl refl (others (is_reserved key))))))

-- by the tests of the spellings
replied : (processes : List Process) (p : ℕ) (a b c d e other : Bool) →
    reply_of (row_of processes p) (cond a Rank (cond b LocalRank (cond c NodeRank (cond d JobSize (cond e Hostname (cond other Other Plain)))))) ≡ cond a (success_with (Number (rank_of processes p)))
    (cond b (success_with (Number (local_rank_of processes p))) (cond c (success_with (Number (node_rank_of processes p)))
    (cond d (success_with (Number (size_of_job processes (job_at processes p)))) (cond e (success_with (NodeName (node_at processes p))) (bare NotFound)))))
unfolding row_of
replied processes p true b c d e other = refl
replied processes p false true c d e other = refl
replied processes p false false true d e other = refl
replied processes p false false false true e other = refl
replied processes p false false false false true other = refl
replied processes p false false false false false true = refl
replied processes p false false false false false false = refl

pub reply_of_kind : (processes : List Process) (p : ℕ) (key : List ℕ) → reply_of (row_of processes p) (key_kind key) ≡ reserved_reply processes p key
unfolding key_kind
reply_of_kind processes p key = replied processes p _ _ _ _ _ (is_reserved key)

-- a number past the keys is that of the empty text, which is plain
pub plain_past : (keys : List (List ℕ)) (kinds : List KeyKind) (n : ℕ) → kinds ≡ map key_kind keys → length kinds ≤ n → Plain ≡ key_kind (text_at keys n)
unfolding key_kind is_reserved
plain_past keys kinds n all past =
    let long : length keys ≤ n = omega (arith, ap length all, length-map keys key_kind) in
    let empty : [] ≡ text_at keys n = ap (λ o. unwrap_or o []) (sym (slice_get_past keys n long)) ∙ unwrap_or-slice_get keys n [] in
    ap key_kind empty

-- the kind of one more key
pub one_kind : (texts : List (List ℕ)) (n : ℕ) (old new : List KeyKind) (kind : KeyKind) (text : List ℕ) → n < length texts → text ≡ get_or texts n [] → kind ≡ key_kind text →
    new ≡ old ++ kind ∷ [] → old ≡ map key_kind (take n texts) → new ≡ map key_kind (take (n + 1) texts)
one_kind texts n old new kind text there at is more was =
    more
    ∙ ap (λ kinds. kinds ++ kind ∷ []) was
    ∙ ap (λ k. map key_kind (take n texts) ++ k ∷ []) (is ∙ ap key_kind at)
    ∙ sym (map_push key_kind (take n texts) (get_or texts n []))
    ∙ ap (map key_kind) (sym (take_more texts n [] there))
