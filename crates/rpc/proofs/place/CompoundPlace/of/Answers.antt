use Rattle.rpc.specs.Views.{compound_view}
use Rattle.rpc.proofs.Places.{stands_there}
use Rattle.rpc.proofs.place.CompoundPlace.of.Goals as goal

pub returns-clause-there : goal.returns-clause-there
returns-clause-there c =
    stands_there c.args.request.now c.args.body.now (compound_view c.args.compound.now) c.requires.body c.requires.compound
