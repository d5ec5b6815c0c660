use Rattle.std.proofs.Common.{◌≡◌, ◌≤◌, ◌+◌, ◌*◌, ℕ, suc, List, ◌∷◌, Option, Some, None, Bool, true, false, cond, refl, ap, ap₂, subst, arith}
use Rattle.std.specs.List.{IsAmong}
use Rattle.volume.proofs.RemountLaws.{seen_left}
use Rattle.model.specs.Operations.Answer.{Answer, Outcome}
use Rattle.model_tree.specs.declared.status.Status.{Status}
use Rattle.model_tree.specs.declared.status.Status.TheVariants as status
use Rattle.model_tree.specs.Trees.Keyed.{at}
use Rattle.model.specs.Operations.Operation.{Argument, operation_of}
use Rattle.model.specs.Wire.Rpc.{CallRead, NoCall, OtherVersion, Calls, Request, Answers, Runs, read_call, request_of}
use Rattle.model.specs.Server.Runs as runs
use Rattle.model.specs.Server.World as world
use Rattle.model.specs.Server.World.{World, Idle, InProgress, Next, Refuses, Reads, HasRun, Gives, Replays, Entry, Connection, Quiet, Waiting, Busy, Replied, Closed, one, turned, called, further, operates, behind, closes, has_run, is_last, is_to_hold, next_operation, in_room, run, noting}
use Rattle.disk.specs.Moments.{moment, seen}
use Rattle.server.specs.RunLaws.{HangUpIsCalls, IsBounded, NeverEmpty, IsIdle, OnlyIdle}
use Rattle.server.specs.Seen.{Seen, ServerCall, Did, IsSeenReady, IsServed, IsTurned, Stays, count_of, left_of}
use Rattle.server.specs.Seen as served
use Rattle.layout.specs.declared.versions.VersionNumber.{VersionNumber}
use Rattle.volume.specs.VolumeState.{VolumeState, IsSameVolume, MakesAtMost, call_cost, flush_cost}
use Rattle.server.proofs.Stops.{joined, mounted_leaves, same_on}

further_calls : (connection now : ℕ) (first old new : Seen) (calls : List ServerCall) → IsServed first calls old → IsTurned connection now old new
    → (more : List ServerCall) × IsServed first more new
further_calls connection now first old new calls before Stays = (calls, before)
further_calls connection now first old new calls before (served.Goes_on {between = between} {said = said} busy does more) =
    further_calls connection now first between new (Did (runs.Turns connection now) said ∷ calls)
    (served.IsServed.Goes_on (runs.Turns connection now) said before does) more

still_ready : (connection now : ℕ) (old new : Seen) → IsTurned connection now old new → IsSeenReady old → IsSeenReady new
still_ready connection now old new Stays ready = ready
still_ready connection now old new (served.Goes_on {between = between} busy does more) ready = still_ready connection now between new more does.ready

pub hang_up_is_calls : HangUpIsCalls
hang_up_is_calls connection now first old new calls before turned = (further_calls connection now first old new calls before turned, still_ready connection now old new turned)

-- a run stays on one volume, so each of its calls costs the same at most
same_so_far : (first last : Seen) (calls : List ServerCall) → IsServed first calls last → IsSameVolume first.volume last.volume
same_so_far first last calls served.IsServed.Begins = record { version = refl; sectors = refl; limits = refl; run = refl }
same_so_far first last calls (served.IsServed.Goes_on {old = between} event said before does) = same_on first.volume between.volume last.volume (same_so_far first between _ before) does.moves.same
same_so_far first last calls (served.IsServed.Fails_at {old = between} event before breaks) = same_on first.volume between.volume last.volume (same_so_far first between _ before) breaks.moves.same
same_so_far first last calls (served.IsServed.Stays_down {old = between} connection said before gives) = same_on first.volume between.volume last.volume (same_so_far first between _ before) gives.moves.same
same_so_far first last calls (served.IsServed.Keeps_on {old = between} before checkpoints) =
    same_on first.volume between.volume last.volume (same_so_far first between _ before) (checkpoints.moves (runs.Takes 0)).same
same_so_far first last calls (served.IsServed.Flushed {old = between} before flushes) =
    same_on first.volume between.volume last.volume (same_so_far first between _ before) (flushes.moves (runs.Takes 0)).same

same_cost : (first last : VolumeState) → IsSameVolume first last → call_cost last ≡ call_cost first
same_cost first last same = ap₂ (λ (v : VersionNumber) (s : ℕ). 2 * flush_cost v s) same.version same.sectors

times_more : (cost count : ℕ) → cost * suc count ≡ cost * count + cost
times_more cost count = grind arith

one_more : (first middle last : Seen) (count : ℕ) → IsSameVolume first.volume middle.volume → moment middle.volume.history ≤ moment first.volume.history + call_cost first.volume * count
    → MakesAtMost (call_cost middle.volume) middle.volume last.volume → moment last.volume.history ≤ moment first.volume.history + call_cost first.volume * suc count
one_more first middle last count same so_far call =
    let cost = call_cost first.volume in
    omega (arith, so_far, call, same_cost first.volume middle.volume same, times_more cost count)

pub is_bounded : IsBounded
is_bounded first last calls served.IsServed.Begins = omega arith
is_bounded first last calls (served.IsServed.Goes_on {old = between} event said before does) =
    one_more first between last (count_of before) (same_so_far first between _ before) (is_bounded first between _ before) does.moves.brief
is_bounded first last calls (served.IsServed.Fails_at {old = between} event before breaks) =
    one_more first between last (count_of before) (same_so_far first between _ before) (is_bounded first between _ before) breaks.moves.brief
is_bounded first last calls (served.IsServed.Stays_down {old = between} connection said before gives) =
    one_more first between last (count_of before) (same_so_far first between _ before) (is_bounded first between _ before) gives.moves.brief
is_bounded first last calls (served.IsServed.Keeps_on {old = between} before checkpoints) =
    one_more first between last (count_of before) (same_so_far first between _ before) (is_bounded first between _ before) (checkpoints.moves (runs.Takes 0)).brief
is_bounded first last calls (served.IsServed.Flushed {old = between} before flushes) =
    one_more first between last (count_of before) (same_so_far first between _ before) (is_bounded first between _ before) (flushes.moves (runs.Takes 0)).brief

pub never_empty : NeverEmpty
never_empty settings run start first last calls mounted served none =
    let all = joined first last calls (mounted_leaves settings run start first mounted) served in
    let one = all.leaves (seen last.volume.history.now) (seen_left last.volume.history.now) in
    let never = subst (λ (left : List runs.Left). IsAmong left (left_of one.0)) none one.1 in
    absurd (omega (arith, never.1.0))

-- A step is not idle

holds_or_ends : (old : World) (number : ℕ) (request : InProgress) (last : Status) (executed : Option Entry) (b : Bool)
    → (cond b (world.goes_on old number (record request { ended = Some last }) executed) (world.ends old number request last false executed)).turn ≡ Idle → ⊥
holds_or_ends old number request last executed true idle = let never : ⊥ = cc in never
holds_or_ends old number request last executed false idle = let never : ⊥ = cc in never

closes_runs : (old : World) (number : ℕ) (request : InProgress) (last : Status) (executed : Option Entry) → (closes old number request last executed).turn ≡ Idle → ⊥
closes_runs old number request last executed idle = holds_or_ends old number request last executed (is_to_hold request old.table) idle

ends_or_goes : (old : World) (number : ℕ) (request : InProgress) (answer : Answer) (executed : Option Entry) (b : Bool)
    → (cond b (closes old number (world.with_result request (Outcome.Done answer)) status.Ok executed)
    (world.goes_on old number (world.with_result request (Outcome.Done answer)) executed)).turn ≡ Idle → ⊥
ends_or_goes old number request answer executed true idle = closes_runs old number (world.with_result request (Outcome.Done answer)) status.Ok executed idle
ends_or_goes old number request answer executed false idle = let never : ⊥ = cc in never

behind_runs : (old : World) (number : ℕ) (request : InProgress) (outcome : Outcome) (executed : Option Entry) → (behind old number request outcome executed).turn ≡ Idle → ⊥
behind_runs old number request (Outcome.Refused operation reason) executed idle = closes_runs old number (world.with_result request (Outcome.Refused operation reason)) reason executed idle
behind_runs old number request (Outcome.Done answer) executed idle = ends_or_goes old number request answer executed (is_last request) idle

has_runs : (old : World) (number : ℕ) (request : InProgress) (operation : Argument) (ran : HasRun) → (has_run old number request operation ran).turn ≡ Idle → ⊥
has_runs old number request operation (Gives outcome after left) idle =
    behind_runs after number (noting old after operation left) outcome (Some (world.executed_entry old request operation outcome after)) idle
has_runs old number request operation (Replays result session slot) idle = let never : ⊥ = cc in never

operates_runs : (old : World) (number now : ℕ) (request : InProgress) (next : Next) → (operates old number now request next).turn ≡ Idle → ⊥
operates_runs old number now request (Refuses operation reason) idle = behind_runs old number request (Outcome.Refused operation reason) None idle
operates_runs old number now request (Reads operation rest) idle = has_runs old number (record request { rest = rest }) operation
    (in_room old (record request { rest = rest }) (operation_of operation) (run old (record request { rest = rest }) now operation)) idle

requests_run : (old : World) (number now xid : ℕ) (request : Request) → (world.requested old number now xid request).turn ≡ Idle → ⊥
requests_run old number now xid (Answers reply) idle = let never : ⊥ = cc in never
requests_run old number now xid (Runs cred compound) idle =
    operates_runs old number now (world.in_progress old xid cred compound) (next_operation (world.in_progress old xid cred compound)) idle

calls_run : (old : World) (number now : ℕ) (call : CallRead) → (called old number now call).turn ≡ Idle → call ≡ NoCall
calls_run old number now NoCall idle = refl
calls_run old number now (OtherVersion xid) idle = let never : ⊥ = cc in absurd never
calls_run old number now (Calls call) idle = absurd (requests_run old number now call.xid (request_of call) idle)

further_runs : (old : World) (number now : ℕ) (request : InProgress) (ended : Option Status) → (further old number now request ended).turn ≡ Idle → ⊥
further_runs old number now request None idle = operates_runs old number now request (next_operation request) idle
further_runs old number now request (Some last) idle = let never : ⊥ = cc in never

turns_run : (old : World) (number now : ℕ) (connection : Option Connection) → (turned old number now connection).turn ≡ Idle → IsIdle connection
turns_run old number now None idle = tt
turns_run old number now (Some (Quiet bytes)) idle = tt
turns_run old number now (Some (Waiting request)) idle = calls_run old number now (read_call request) idle
turns_run old number now (Some (Busy request)) idle = further_runs old number now request request.ended idle
turns_run old number now (Some (Replied reply)) idle = tt
turns_run old number now (Some Closed) idle = tt

idles : (old : World) (number now : ℕ) (connection : Option Connection) → IsIdle connection → (turned old number now connection).turn ≡ Idle
idles old number now None is = refl
idles old number now (Some (Quiet bytes)) is = refl
idles old number now (Some (Waiting request)) is = ap (λ (call : CallRead). (called old number now call).turn) is
idles old number now (Some (Busy request)) is = absurd is
idles old number now (Some (Replied reply)) is = refl
idles old number now (Some Closed) is = refl

pub only_idle : OnlyIdle
unfolding one
only_idle old number now = (turns_run old number now (at number old.connections), idles old number now (at number old.connections))
