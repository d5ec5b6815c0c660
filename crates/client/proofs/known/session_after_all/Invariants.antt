use Rattle.std.proofs.Common.{◌≡◌, take}
use Rattle.std.specs.Prelude.{map, fold}
use Rattle.std.specs.Option.{option_map}
use Rattle.wire.specs.OutcomeView.{outcome_view}
use Rattle.client.specs.Replies.{session_after}
use Rattle.client.specs.Views.{session_of}
use Rattle.client.proofs.known.session_after_all.Given as goal

abbrev pub invariant-loop-one : goal.invariant-loop-one
invariant-loop-one l =
    option_map session_of l.session ≡ fold session_after (option_map session_of l.fn.session) (map outcome_view (take l.one-index l.results))
