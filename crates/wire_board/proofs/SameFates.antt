-- What `==` says of two fates.
use Rattle.std.proofs.Common.{◌≡◌, ap, refl}
use Rattle.std.specs.Bool.{Decides}
use denote.Enum.Bare.{same_true, true_same}
use Rattle.wire_scripts.proofs.SameCalls.{apart, alike, number, both, through}
use Rattle.wire_types.specs.declared.CallAt.{CallAt}
use Rattle.wire_types.specs.declared.Value.{Value}
use Rattle.wire_types.specs.declared.Value.TheVariants.{Nothing, Put, Published, Number, NodeName}
use Rattle.wire_types.specs.declared.Reply.{Reply}
use Rattle.wire_types.specs.contracts.place.CallAtPartialEq.TheImpl as places
use Rattle.wire_types.specs.contracts.reply.ValuePartialEq.TheImpl as values
use Rattle.wire_types.specs.contracts.reply.ReplyPartialEq.TheImpl as replies
use Rattle.wire_types.specs.contracts.reply.Status.{the_type}
use Rattle.wire_fates.specs.declared.fate.Fate.{Fate}
use Rattle.wire_fates.specs.declared.fate.Fate.TheVariants.{Says, Silent, Waits}
use Rattle.wire_fates.specs.contracts.fate.FatePartialEq.TheImpl as fates

places_decide : (p q : CallAt) → Decides (places.ghosts.eq p q) (p ≡ q)
places_decide p q = through _ (both _ _ (number p.proc.number q.proc.number) (number p.call q.call))
    (λ h i. record { proc = record { number = h.0 i }; call = h.1 i }) (λ e. (ap (λ (x : CallAt). x.proc.number) e, ap (λ (x : CallAt). x.call) e))

values_decide : (v w : Value) → Decides (values.ghosts.eq v w) (v ≡ w)
values_decide Nothing Nothing = alike refl
values_decide Nothing (Put _) = apart (λ e. cc)
values_decide Nothing (Published _) = apart (λ e. cc)
values_decide Nothing (Number _) = apart (λ e. cc)
values_decide Nothing (NodeName _) = apart (λ e. cc)
values_decide (Put _) Nothing = apart (λ e. cc)
values_decide (Put x) (Put y) = through _ (places_decide x y) (λ h i. Put (h i)) (λ e. cc)
values_decide (Put _) (Published _) = apart (λ e. cc)
values_decide (Put _) (Number _) = apart (λ e. cc)
values_decide (Put _) (NodeName _) = apart (λ e. cc)
values_decide (Published _) Nothing = apart (λ e. cc)
values_decide (Published _) (Put _) = apart (λ e. cc)
values_decide (Published x) (Published y) = through _ (places_decide x y) (λ h i. Published (h i)) (λ e. cc)
values_decide (Published _) (Number _) = apart (λ e. cc)
values_decide (Published _) (NodeName _) = apart (λ e. cc)
values_decide (Number _) Nothing = apart (λ e. cc)
values_decide (Number _) (Put _) = apart (λ e. cc)
values_decide (Number _) (Published _) = apart (λ e. cc)
values_decide (Number x) (Number y) = through _ (number x y) (λ h i. Number (h i)) (λ e. cc)
values_decide (Number _) (NodeName _) = apart (λ e. cc)
values_decide (NodeName _) Nothing = apart (λ e. cc)
values_decide (NodeName _) (Put _) = apart (λ e. cc)
values_decide (NodeName _) (Published _) = apart (λ e. cc)
values_decide (NodeName _) (Number _) = apart (λ e. cc)
values_decide (NodeName x) (NodeName y) = through _ (number x y) (λ h i. NodeName (h i)) (λ e. cc)

replies_decide : (a b : Reply) → Decides (replies.ghosts.eq a b) (a ≡ b)
replies_decide a b = through _ (both _ _ (same_true the_type tt a.status b.status, true_same the_type a.status b.status) (values_decide a.value b.value))
    (λ h i. record { status = h.0 i; value = h.1 i }) (λ e. (ap (λ (r : Reply). r.status) e, ap (λ (r : Reply). r.value) e))

pub fates_decide : (a b : Fate) → Decides (fates.ghosts.eq a b) (a ≡ b)
fates_decide (Says a) (Says b) = through _ (replies_decide a b) (λ h i. Says (h i)) (λ e. cc)
fates_decide (Says _) Silent = apart (λ e. cc)
fates_decide (Says _) Waits = apart (λ e. cc)
fates_decide Silent (Says _) = apart (λ e. cc)
fates_decide Silent Silent = alike refl
fates_decide Silent Waits = apart (λ e. cc)
fates_decide Waits (Says _) = apart (λ e. cc)
fates_decide Waits Silent = apart (λ e. cc)
fates_decide Waits Waits = alike refl
