-- The calls of a server are a run of the machine, and what a crash within one leaves represents
-- what the machine may leave.
use Rattle.std.proofs.Common.{◌≡◌, ◌<◌, ◌+◌, ◌^◌, ℕ, cond, List, length, refl, sym, ap, ◌∙◌, subst, inl, arith, ⊎_elim}
use Rattle.std.proofs.Math.Logic.{∥∥₁_elim, ∥∥₁_map}
use Rattle.std.proofs.Props.{props}
use Rattle.disk.specs.Moments.{Image, History, LeftSince, moment, seen}
use Rattle.layout.specs.Stands.{Kept, bare_in}
use Rattle.layout.specs.declared.versions.VersionNumber.{VersionNumber}
use Rattle.model_tree.specs.Trees.Fresh.{fresh_tree}
use Rattle.volume.specs.MountAnswers.{NoTree}
use Rattle.volume.specs.VolumeState.{VolumeState, IsSameVolume, kept_of}
use Rattle.volume.specs.Stands.{StandsFor, IsBase}
use Rattle.volume.specs.Superblock.{last_run}
use Rattle.volume.proofs.FormatLaws.{fresh_stands_for}
use Rattle.volume.proofs.StandLaws.{is_number}
use Rattle.volume.proofs.OneTree.{Kept-set, one_stands}
use Rattle.model.proofs.Server.HeldLaws.{every_held_is_kept}
use Rattle.model.proofs.Operations.AnswerLaws.{every_answer_is_permitted}
use Rattle.model.proofs.Operations.GivenLaws.{every_stamp_is_given}
use Rattle.model.proofs.Server.StampLaws.{every_stamp}
use Rattle.model.specs.Server.StampRuns.{AreGiven}
use Rattle.model.specs.Server.Runs as runs
use Rattle.model.specs.Server.Runs.{Serving, Event, Takes, RunHistory, IsRun, AreStamped, taken_with, history_after, history_failing, effect_of, mounted}
use Rattle.model.specs.Server.World.{World}
use Rattle.volume.proofs.RemountLaws.{seen_left, rests_left, lasting, served_good}
use Rattle.volume.specs.Formats.{IsFresh}
use Rattle.volume.specs.Remounts.{StandsForGood, LeavesGood}
use Rattle.server.specs.Headline.{IsMounted, IsGoodKept, EveryStop, EveryRun, EveryFirst, IsNewVolume, Formatted, Powers, NeverLost, IsNotLost, EveryTrace, Stopped, executed_in, Follows, IsLater, Next, Then, EveryLife, EveryStamping, EveryAnswer}
use Rattle.volume.specs.VolumeState.{StandsForOne}
use Rattle.server.specs.Seen.{Seen, left_of, LeavesNow, MayKeepDuring, Moves, ServerCall, IsServed, Begins, Goes_on, Fails_at, Stays_down, Keeps_on, Flushed, world_after, history_of, AreTold, event_said}
use Rattle.server.specs.LifeLaws.{settled_by, stored_when_taken}
use Rattle.server.specs.Views.{server_limits}
use Rattle.server.proofs.Moves.{left_now}
use Rattle.server.proofs.Pairs.{among_left}
use Rattle.model.specs.Sessions.Session.{Settings}

-- a crash within a call
stopped_in : (old new : Seen) (event : Event) → LeavesNow old → Moves old event new → (image : Image) → LeftSince new.volume.history (moment old.volume.history) image
    → StandsForOne old.volume (MayKeepDuring old.serving event) image
stopped_in old new event leaves moves image left = ⊎_elim
    (λ (before : LeftSince old.volume.history (moment old.volume.history) image).
    let one = leaves image (left_now old.volume.history image before) in
    (one.0, inl one.1, one.2))
    (λ (added : StandsForOne old.volume (MayKeepDuring old.serving event) image). added)
    (moves.moments.added (moment old.volume.history) image (omega arith) left)

-- The calls so far

-- of the replies that were stored, how many were when last nothing waited, and when one was taken
pub record HasCounts {first last : Serving} {history : RunHistory} (run : IsRun first last history) (settled taken : ℕ) : Type 0 where
  pub settled_is : settled ≡ runs.settled_by run
  pub taken_is : taken ≡ runs.stored_when_taken run

pub record IsJoined (first : Seen) (calls : List ServerCall) (last : Seen) (served : IsServed first calls last) : Type 0 where
  pub world : last.serving.world ≡ world_after first.serving.world calls
  pub run : IsRun first.serving last.serving (history_of first.serving.world calls)
  pub counts : HasCounts run (settled_by served) (stored_when_taken served)
  pub leaves : LeavesNow last
  pub same : IsSameVolume first.volume last.volume

pub same_on : (a b c : VolumeState) → IsSameVolume a b → IsSameVolume b c → IsSameVolume a c
same_on a b c ab bc = record {
  version = bc.version ∙ ab.version;
  sectors = bc.sectors ∙ ab.sectors;
  limits = bc.limits ∙ ab.limits;
  run = bc.run ∙ ab.run;
}

-- the run in the world of the calls, with what it has settled
abbrev Counted : (first last : Serving) → RunHistory → (settled taken : ℕ) → Type 0
Counted first last history settled taken = (run : IsRun first last history) × HasCounts run settled taken

pub joined : (first last : Seen) (calls : List ServerCall) → LeavesNow first → (served : IsServed first calls last) → IsJoined first calls last served
joined first last calls leaves Begins = record {
  world = refl;
  run = runs.Begins;
  counts = record { settled_is = refl; taken_is = refl };
  leaves = leaves;
  same = record { version = refl; sectors = refl; limits = refl; run = refl };
}
joined first last calls leaves (Goes_on {calls = earlier} {old = old} {new = new} event said before does) =
    let was = joined first old earlier leaves before in
    let history = history_of first.serving.world earlier in
    let count : RunHistory → ℕ → ℕ = λ (h : RunHistory) (before : ℕ). cond new.serving.waits before (length h.stored) in
    let more : Counted first.serving new.serving (history_after history (world_after first.serving.world earlier) event)
    (count (history_after history (world_after first.serving.world earlier) event) (settled_by before)) (taken_with event (length history.stored) (stored_when_taken before)) =
    subst (λ (w : World). Counted first.serving new.serving (history_after history w event) (count (history_after history w event) (settled_by before)) (taken_with event (length history.stored) (stored_when_taken before)))
    was.world (
      runs.Goes_on event was.run does.happens,
      record {
        settled_is = ap (count (history_after history old.serving.world event)) was.counts.settled_is;
        taken_is = ap (taken_with event (length history.stored)) was.counts.taken_is;
      },
    ) in
    record {
      world = does.happens.world ∙ ap (λ (w : World). effect_of w event) was.world;
      run = more.0;
      counts = more.1;
      leaves = does.moves.leaves;
      same = same_on first.volume old.volume new.volume was.same does.moves.same;
    }
joined first last calls leaves (Fails_at {calls = earlier} {old = old} {new = new} event before breaks) =
    let was = joined first old earlier leaves before in
    let history = history_of first.serving.world earlier in
    let more : Counted first.serving new.serving (history_failing history (world_after first.serving.world earlier) event) (settled_by before) (stored_when_taken before) =
    subst (λ (w : World). Counted first.serving new.serving (history_failing history w event) (settled_by before) (stored_when_taken before)) was.world
    (runs.Fails_at event was.run breaks.fails, record { settled_is = was.counts.settled_is; taken_is = was.counts.taken_is }) in
    record {
      world = breaks.fails.world ∙ was.world;
      run = more.0;
      counts = more.1;
      leaves = breaks.moves.leaves;
      same = same_on first.volume old.volume new.volume was.same breaks.moves.same;
    }
joined first last calls leaves (Stays_down {calls = earlier} {old = old} {new = new} connection said before gives) =
    let was = joined first old earlier leaves before in
    let history = history_of first.serving.world earlier in
    let more : Counted first.serving new.serving (history_after history (world_after first.serving.world earlier) (Takes connection)) (settled_by before) (length history.stored) =
    subst (λ (w : World). Counted first.serving new.serving (history_after history w (Takes connection)) (settled_by before) (length history.stored)) was.world
    (runs.Stays_down connection was.run gives.stays, record { settled_is = was.counts.settled_is; taken_is = refl }) in
    record {
      world = gives.stays.world ∙ ap (λ (w : World). effect_of w (Takes connection)) was.world;
      run = more.0;
      counts = more.1;
      leaves = gives.moves.leaves;
      same = same_on first.volume old.volume new.volume was.same gives.moves.same;
    }
joined first last calls leaves (Keeps_on {old = old} {new = new} before keeps) =
    let was = joined first old calls leaves before in
    let moves = keeps.moves (Takes 0) in
    let more : Counted first.serving new.serving (history_of first.serving.world calls) (settled_by before) (stored_when_taken before) =
    subst (λ (s : Serving). Counted first.serving s (history_of first.serving.world calls) (settled_by before) (stored_when_taken before)) (sym keeps.serving) (was.run, was.counts) in
    record {
      world = ap (λ (s : Serving). s.world) keeps.serving ∙ was.world;
      run = more.0;
      counts = more.1;
      leaves = moves.leaves;
      same = same_on first.volume old.volume new.volume was.same moves.same;
    }
joined first last calls leaves (Flushed {old = old} {new = new} before flushes) =
    let was = joined first old calls leaves before in
    let moves = flushes.moves (Takes 0) in
    record {
      world = flushes.flushes.world ∙ was.world;
      run = runs.Flushed was.run flushes.flushes;
      counts = record { settled_is = refl; taken_is = was.counts.taken_is };
      leaves = moves.leaves;
      same = same_on first.volume old.volume new.volume was.same moves.same;
    }

-- a server that was just mounted leaves what it begins with
pub mounted_leaves : (settings : Settings) (run : ℕ) (start : Kept) (first : Seen) → IsMounted settings run start first → LeavesNow first
mounted_leaves settings run start first mounted image left =
    let one = mounted.ready.leaves image left in
    (one.0, among_left first.serving.left one.0 one.1, one.2)

-- The laws

pub every_stop : EveryStop
every_stop stopped image left =
    let first = stopped.first in
    let old = stopped.old in
    let history = history_of first.serving.world stopped.calls in
    let all = joined first old stopped.calls (mounted_leaves stopped.settings stopped.run stopped.start first stopped.mounted) stopped.served in
    let found = stopped_in old stopped.new stopped.event all.leaves stopped.moves image left in
    let kept = every_held_is_kept (server_limits first.volume.version first.volume.limits stopped.settings) stopped.run stopped.start.tree stopped.start.seats old.serving history
    (subst (λ (s : Serving). IsRun s old.serving history) stopped.mounted.serves all.run) (λ _. (stopped.mounted.few, stopped.mounted.seats)) stopped.event (left_of found.0) found.1 in
    let stands : StandsFor first.volume.sectors first.volume.limits.nodes stopped.run found.0 image =
    subst (λ (s : ℕ). StandsFor s first.volume.limits.nodes stopped.run found.0 image) all.same.sectors
    (subst (λ (n : ℕ). StandsFor old.volume.sectors n stopped.run found.0 image) (ap (λ l. l.nodes) all.same.limits)
    (subst (λ (r : ℕ). StandsFor old.volume.sectors old.volume.limits.nodes r found.0 image) (all.same.run ∙ stopped.mounted.counted) found.2)) in
    record {
      kept = found.0;
      good = record { tree = kept.prefix; left = found.1; held = kept.held };
      stands = stands;
      no_other = λ nodes run other others.
          let one = one_stands _ _ _ _ _ other found.0 image others stands in
          (one.kept_is, (one.nodes_are, one.run_is));
    }

-- under a count, or a greater one
stands_more : (sectors nodes run : ℕ) (good : Kept → Type 0) (kept : Kept) (image : Image) → good kept → StandsFor sectors nodes run kept image
    → StandsForGood sectors nodes run good image
stands_more sectors nodes run good kept image is stands =
    ∣ (kept, is, 0, subst (λ (r : ℕ). StandsFor sectors nodes r kept image) (omega arith) stands) ∣₁

leaves_good : (stopped : Stopped) → LeavesGood stopped.first.volume.sectors stopped.first.volume.limits.nodes stopped.run (IsGoodKept stopped)
    stopped.new.volume.history (moment stopped.old.volume.history)
leaves_good stopped = record {
  within = stopped.moves.moments.later;
  leaves = λ image left.
      let is = every_stop stopped image left in
      stands_more stopped.first.volume.sectors stopped.first.volume.limits.nodes stopped.run (IsGoodKept stopped) is.kept image is.good is.stands;
}

pub every_run_again : EveryRun
every_run_again stopped device from again remounts found =
    let same = served_good stopped.first.volume.sectors stopped.first.volume.limits.nodes stopped.run (IsGoodKept stopped)
    stopped.new.volume.history (moment stopped.old.volume.history) device from again (leaves_good stopped) remounts found in
    record { good = same.kept_is; nodes = same.nodes_are; counted = same.greater }

-- Between runs

new_leaves : (version : VersionNumber) (sectors nodes : ℕ) (new : History) (since : ℕ) → IsNewVolume version sectors nodes new since → LeavesGood sectors nodes 0 (λ kept. kept ≡ bare_in version fresh_tree) new since
new_leaves version sectors nodes new since (Formatted {device = device} served fresh) = record {
  within = omega arith;
  leaves = λ image left. stands_more sectors nodes 0 (λ kept. kept ≡ bare_in version fresh_tree) (bare_in version fresh_tree) image refl (fresh_stands_for version sectors nodes image (is_number version served) (fresh image (left_now device image left)));
}
new_leaves version sectors nodes new since (Powers {image = was} served fresh) = record {
  within = omega arith;
  leaves = λ image left. stands_more sectors nodes 0 (λ kept. kept ≡ bare_in version fresh_tree) (bare_in version fresh_tree) image refl
      (fresh_stands_for version sectors nodes image (is_number version served) (subst (λ (i : Image). IsFresh version sectors nodes i) (sym (rests_left was image left)) fresh));
}

pub every_first : EveryFirst
every_first version sectors nodes new since device from first is remounts found =
    let same = served_good sectors nodes 0 (λ kept. kept ≡ bare_in version fresh_tree) new since device from first (new_leaves version sectors nodes new since is) remounts found in
    record { empty = ∥∥₁_elim same.kept_is (Kept-set (kept_of first) (bare_in version fresh_tree)) (λ e. e); nodes_are = same.nodes_are; counted = same.greater }

module _ (sectors nodes run : ℕ) (good : Kept → Type 0) (device : History) (from : ℕ) (leaves : LeavesGood sectors nodes run good device from) where
  stands : StandsForGood sectors nodes run good (seen device.now)
  stands = leaves.leaves (seen device.now) (inl (seen_left device.now))

  there : NoTree sectors device → ⊥
  there none = ∥∥₁_elim stands (Prim.hlevel props) (λ one.
      ∥∥₁_elim one.3 (Prim.hlevel props) (λ base. none nodes (run + one.2) one.0 base))

  full : ((other_nodes count : ℕ) (kept : Kept) → IsBase sectors other_nodes count kept (seen device.now) → count + 1 ≡ 2 ^ 32)
      → ∥ ((kept : Kept) × good kept × StandsFor sectors nodes last_run kept (seen device.now)) ∥₁
  full is = ∥∥₁_elim stands (Prim.hlevel props) (λ one.
      ∥∥₁_map one.3 (λ base.
      let at_last = is nodes (run + one.2) one.0 base in
      (one.0, one.1, subst (λ (count : ℕ). StandsFor sectors nodes count one.0 (seen device.now)) (omega (arith, at_last)) one.3)))

  not_lost : IsNotLost sectors nodes run good device from
  not_lost = record {
    leaves = leaves;
    not_volume = λ new refused. there refused.reason.no_tree;
    not_damaged = λ new refused. there refused.reason.no_tree;
    worn = λ new refused. full refused.reason.full;
  }

pub never_lost : NeverLost
never_lost = record {
  first = λ version sectors nodes new since device from is remounts.
      not_lost sectors nodes 0 (λ kept. kept ≡ bare_in version fresh_tree) device from
      (lasting sectors nodes 0 (λ kept. kept ≡ bare_in version fresh_tree) new since device from (new_leaves version sectors nodes new since is) remounts);
  later = λ stopped device from remounts.
      let sectors = stopped.first.volume.sectors in
      let nodes = stopped.first.volume.limits.nodes in
      not_lost sectors nodes stopped.run (IsGoodKept stopped) device from
      (lasting sectors nodes stopped.run (IsGoodKept stopped) stopped.new.volume.history (moment stopped.old.volume.history) device from (leaves_good stopped) remounts);
}

pub follows_run : (old new : Stopped) → Follows old new → ∥ IsGoodKept old new.start ∥₁ × (old.run < new.run)
follows_run old new follows =
    let again = every_run_again old follows.device follows.from new.first.volume follows.remounts follows.found in
    (subst (λ (kept : Kept). ∥ IsGoodKept old kept ∥₁) new.mounted.begins again.good, subst (λ (r : ℕ). old.run < r) new.mounted.counted again.counted)

later_run : (old new : Stopped) → IsLater old new → old.run < new.run
later_run old new (Next follows) = (follows_run old new follows).1
later_run old new (Then {between = between} later follows) =
    let first = later_run old between later in
    let second = (follows_run between new follows).1 in
    omega (arith, first, second)

pub every_life : EveryLife
every_life = record { begins = λ old new follows. (follows_run old new follows).0; rises = later_run }

-- Stamps

stamped_within : (stopped : Stopped) → AreStamped stopped.run (executed_in stopped)
stamped_within stopped =
    let first = stopped.first in
    let old = stopped.old in
    let history = history_of first.serving.world stopped.calls in
    let all = joined first old stopped.calls (mounted_leaves stopped.settings stopped.run stopped.start first stopped.mounted) stopped.served in
    every_stamp (server_limits first.volume.version first.volume.limits stopped.settings) stopped.run stopped.start.tree stopped.start.seats old.serving history
    (subst (λ (s : Serving). IsRun s old.serving history) stopped.mounted.serves all.run) stopped.event

given_within : (stopped : Stopped) → ∥ AreGiven stopped.run (executed_in stopped) ∥₁
given_within stopped =
    let first = stopped.first in
    let old = stopped.old in
    let history = history_of first.serving.world stopped.calls in
    let all = joined first old stopped.calls (mounted_leaves stopped.settings stopped.run stopped.start first stopped.mounted) stopped.served in
    ∥∥₁_map stopped.mounted.starts (λ starts.
    every_stamp_is_given (server_limits first.volume.version first.volume.limits stopped.settings) stopped.run stopped.start.tree stopped.start.seats old.serving history stopped.mounted.room starts
    (subst (λ (s : Serving). IsRun s old.serving history) stopped.mounted.serves all.run) stopped.event)

pub every_stamping : EveryStamping
every_stamping = record {
  given = given_within;
  within = stamped_within;
  between = λ old new later i j one other first second differs changes.
      let less = later_run old new later in
      let low = ((stamped_within old).of_run i one first differs).1 in
      let high = ((stamped_within new).of_run j other second changes).0 in
      omega (arith, less, low, high);
}

-- What holds of worlds and results needs nothing of the device
traced : (first last : Seen) (calls : List ServerCall) → IsServed first calls last
    → (last.serving.world ≡ world_after first.serving.world calls) × AreTold first.serving.world calls
traced first last calls Begins = (refl, tt)
traced first last calls (Goes_on {calls = earlier} {old = old} {new = new} event said before does) =
    let was = traced first old earlier before in
    (does.happens.world ∙ ap (λ (w : World). effect_of w event) was.0, (does.says ∙ ap (λ (w : World). event_said w event) was.0, was.1))
traced first last calls (Fails_at {calls = earlier} {old = old} {new = new} event before breaks) =
    let was = traced first old earlier before in
    (breaks.fails.world ∙ was.0, was.1)
traced first last calls (Stays_down {calls = earlier} {old = old} {new = new} connection said before gives) =
    let was = traced first old earlier before in
    (gives.stays.world ∙ ap (λ (w : World). effect_of w (Takes connection)) was.0, (gives.says ∙ ap (λ (w : World). event_said w (Takes connection)) was.0, was.1))
traced first last calls (Keeps_on {old = old} {new = new} before keeps) =
    let was = traced first old calls before in
    (ap (λ (s : Serving). s.world) keeps.serving ∙ was.0, was.1)
traced first last calls (Flushed {old = old} {new = new} before flushes) =
    let was = traced first old calls before in
    (flushes.flushes.world ∙ was.0, was.1)

pub every_trace : EveryTrace
every_trace first last calls served = traced first last calls served

-- Answers

pub every_answer : EveryAnswer
every_answer stopped =
    let first = stopped.first in
    let old = stopped.old in
    let history = history_of first.serving.world stopped.calls in
    let all = joined first old stopped.calls (mounted_leaves stopped.settings stopped.run stopped.start first stopped.mounted) stopped.served in
    every_answer_is_permitted (server_limits first.volume.version first.volume.limits stopped.settings) stopped.run stopped.start.tree stopped.start.seats old.serving history
    (subst (λ (s : Serving). IsRun s old.serving history) stopped.mounted.serves all.run) stopped.event
