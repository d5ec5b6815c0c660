-- What happens elsewhere leaves a connection that has a request.
use Rattle.std.proofs.Common.{◌≡◌, ◌≢◌, ◌&&◌, not, ◌⊎◌, inl, inr, ℕ, Bool, true, false, cond, List, [], length, Option, None, Some, refl, sym, ap, ◌∙◌, nat_lt}
use Rattle.std.specs.Prelude.{is_some}
use Rattle.std.proofs.lemmas.Bool.{cases_eq, false≢true}
use Rattle.std.proofs.lemmas.Option.{same_Some}
use Rattle.model_tree.specs.Trees.Keyed.{at, with}
use Rattle.model.specs.Wire.Record.{RecordLimits}
use Rattle.model.specs.Server.Runs.{Event, Arrives, Turns, HangsUp, Connects, Takes, effect_of}
use Rattle.model.specs.Server.World.{World, Connection, Quiet, Waiting, Busy, Replied, Closed, arrives_at, arrives, connection_changed, with_connection, without_reply, takes, can_connect, connects, is_busy, without_connection, hangs_up}
use Rattle.model_tree.proofs.Trees.KeyedLaws.{at-with_same, at-with_other, at-without_other}
use Rattle.client.specs.Whole.{IsElsewhere}
use Rattle.client.proofs.Outcomes.{one_well}

-- it has a whole request, or one that has begun
abbrev pub IsAsked : Connection → Type 0
IsAsked (Waiting request) = Unit {0}
IsAsked (Busy request) = Unit {0}
IsAsked _ = ⊥

arriving : (limits : RecordLimits) (piece : List ℕ) (c : Connection) → IsAsked c → arrives_at limits piece c ≡ c
arriving limits piece (Quiet bytes) asked = absurd asked
arriving limits piece (Waiting request) asked = refl
arriving limits piece (Busy request) asked = refl
arriving limits piece (Replied reply) asked = absurd asked
arriving limits piece Closed asked = absurd asked

module _ (world : World) (number : ℕ) (c : Connection) (is : at number world.connections ≡ Some c) (other : ℕ) where
  changed : (change : Connection → Connection) → (number ≡ other → change c ≡ c) → (found : Option Connection) → at other world.connections ≡ found
      → at number (connection_changed world other change found).connections ≡ Some c
  changed change same None found = is
  changed change same (Some d) found = by_place (cases_eq number other)
    where
      by_place : (number ≡ other) ⊎ (number ≢ other) → at number (with world.connections other (change d)) ≡ Some c
      by_place (inl here) =
          let one : d ≡ c = same_Some d c (sym found ∙ (ap (λ (n : ℕ). at n world.connections) (sym here) ∙ is)) in
          ap (λ (n : ℕ). at n (with world.connections other (change d))) here
          ∙ (at-with_same world.connections other (change d) ∙ (ap (λ (x : Connection). Some (change x)) one ∙ ap (λ (x : Connection). Some x) (same here)))
      by_place (inr apart) = at-with_other world.connections other number (change d) apart ∙ is

  dropped : (other ≡ number → ⊥) → (b : Bool) → at number (cond b world (without_connection world other)).connections ≡ Some c
  dropped apart true = is
  dropped apart false = at-without_other world.connections other number (λ same. apart (sym same)) ∙ is

  connected : (free : Bool) → can_connect world other ≡ free → at number (cond free (with_connection world other (Quiet [])) world).connections ≡ Some c
  connected false free = is
  connected true free = by_place (cases_eq number other)
    where
      by_place : (number ≡ other) ⊎ (number ≢ other) → at number (with world.connections other (Quiet [])) ≡ Some c
      by_place (inl here) =
          let there : at other world.connections ≡ Some c = ap (λ (n : ℕ). at n world.connections) (sym here) ∙ is in
          let taken : can_connect world other ≡ false =
          ap (λ (o : Option Connection). not (is_some o) && nat_lt (length world.connections) world.limits.connections) there in
          absurd (false≢true (sym taken ∙ free))
      by_place (inr apart) = at-with_other world.connections other number (Quiet []) apart ∙ is

pub connection_stays : (world : World) (number : ℕ) (c : Connection) (event : Event) → at number world.connections ≡ Some c → IsAsked c → IsElsewhere number event
    → at number (effect_of world event).connections ≡ Some c
unfolding arrives takes connects hangs_up
connection_stays world number c (Arrives other piece) is asked apart =
    changed world number c is other (arrives_at world.limits.records piece) (λ here. arriving world.limits.records piece c asked) (at other world.connections) refl
connection_stays world number c (Turns other now) is asked apart = (one_well world other now).others number (λ same. apart (sym same)) ∙ is
connection_stays world number c (HangsUp other) is asked apart = dropped world number c is other apart (is_busy (at other world.connections))
connection_stays world number c (Connects other) is asked apart = connected world number c is other (can_connect world other) refl
connection_stays world number c (Takes other) is asked apart =
    changed world number c is other without_reply (λ here. absurd (apart (sym here))) (at other world.connections) refl

-- and one whose reply waits
pub reply_stays : (world : World) (number : ℕ) (reply : List ℕ) (event : Event) → at number world.connections ≡ Some (Replied reply) → IsElsewhere number event
    → at number (effect_of world event).connections ≡ Some (Replied reply)
unfolding arrives takes connects hangs_up
reply_stays world number reply (Arrives other piece) is apart =
    changed world number (Replied reply) is other (arrives_at world.limits.records piece) (λ here. refl) (at other world.connections) refl
reply_stays world number reply (Turns other now) is apart = (one_well world other now).others number (λ same. apart (sym same)) ∙ is
reply_stays world number reply (HangsUp other) is apart = dropped world number (Replied reply) is other apart (is_busy (at other world.connections))
reply_stays world number reply (Connects other) is apart = connected world number (Replied reply) is other (can_connect world other) refl
reply_stays world number reply (Takes other) is apart =
    changed world number (Replied reply) is other without_reply (λ here. absurd (apart (sym here))) (at other world.connections) refl
