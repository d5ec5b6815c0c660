-- What a volume leaves, as the machine has it, and what of it has to last.
use Rattle.std.proofs.Common.{◌≡◌, ◌≢◌, ◌<◌, ◌⊎◌, inl, inr, ℕ, zero, suc, Bool, true, List, [], ◌∷◌, length, get_or, refl, sym, ap, subst, arith}
use Rattle.std.specs.List.{IsAmong}
use Rattle.std.specs.Prelude.{map}
use Rattle.compound.specs.Volumes.{HasToLast}
use Rattle.layout.specs.Stands.{Kept}
use Rattle.model.specs.Server.Runs.{Left}
use Rattle.model_tree.specs.Seats.Seats.{Seats}
use Rattle.volume.specs.VolumeState.{VolumeState, IsRecent}
use Rattle.volume.proofs.PrefixLaws.{among_rest}
use Rattle.server.specs.Seen.{kept_by, left_of}

-- What a volume leaves, as the machine has it

among_each : {A B : Type 0} (to : A → B) (list : List A) (one : A) → IsAmong list one → IsAmong (map to list) (to one)
among_each {A} {B} to list one among = by_place list among.0 among.1.0 among.1.1
  where
    by_place : (list : List A) (place : ℕ) → place < length list → one ≡ get_or list place one → IsAmong (map to list) (to one)
    by_place [] place less e = absurd (omega (arith, less))
    by_place (first ∷ rest) zero less e = (0, (omega arith, ap to e))
    by_place (first ∷ rest) (suc place) less e = among_rest (to first) (map to rest) (to one) (by_place rest place (omega (arith, less)) e)

kept_left : (recent : List Left) → map left_of (map kept_by recent) ≡ recent
kept_left [] = refl
kept_left (one ∷ recent) = ap (λ (rest : List Left). one ∷ rest) (kept_left recent)

left_kept : (recent : List Kept) → map kept_by (map left_of recent) ≡ recent
left_kept [] = refl
left_kept (kept ∷ recent) = ap (λ (rest : List Kept). kept ∷ rest) (left_kept recent)

pub among_left : (recent : List Left) (kept : Kept) → IsAmong (map kept_by recent) kept → IsAmong recent (left_of kept)
among_left recent kept among = subst (λ (left : List Left). IsAmong left (left_of kept)) (kept_left recent) (among_each left_of (map kept_by recent) kept among)

pub among_kept : (left : List Kept) (one : Left) → IsAmong (map left_of left) one → IsAmong left (kept_by one)
among_kept left one among = subst (λ (kept : List Kept). IsAmong kept (kept_by one)) (left_kept left) (among_each kept_by (map left_of left) one among)

pub recent_left : (held : VolumeState) (left : List Kept) → IsRecent held left → IsRecent held (map kept_by (map left_of left))
recent_left held left recent = subst (IsRecent held) (sym (left_kept left)) recent

-- What has to last: what has to by itself, and all if the seats change

unfoldable pub lasting_by : {after held : Seats} → (after ≡ held) ⊎ (after ≢ held) → (durable : Bool) → Bool
lasting_by (inl same) durable = durable
lasting_by (inr differs) durable = true

pub lasting_more : {after held : Seats} (same : (after ≡ held) ⊎ (after ≢ held)) (durable : Bool) → durable ≡ true → lasting_by same durable ≡ true
unfolding lasting_by
lasting_more (inl same) durable is = is
lasting_more (inr differs) durable is = refl

pub lasting_changed : {after held : Seats} (same : (after ≡ held) ⊎ (after ≢ held)) (durable : Bool) → after ≢ held → lasting_by same durable ≡ true
unfolding lasting_by
lasting_changed (inl same) durable differs = absurd (differs same)
lasting_changed (inr differs) durable _ = refl

pub has_to_last : (held : VolumeState) (after : Kept) (same : (after.seats ≡ held.seats) ⊎ (after.seats ≢ held.seats)) (durable other : Bool) → durable ≡ other
    → HasToLast held other after (lasting_by same durable)
unfolding lasting_by
has_to_last held after (inl same) durable other is = inl is
has_to_last held after (inr differs) durable other is = inr differs
