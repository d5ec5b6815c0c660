-- An operation that comes only first in a COMPOUND is never read as a later one, and each one that
-- is read is served.
use Rattle.std.proofs.Common.{◌≡◌, ℕ, true, List, refl, sym, ◌∙◌}
use Rattle.model.specs.Operations.Operation.{Argument, operation_of}
use Rattle.model.specs.Server.World.{InProgress, Reads, next_operation}
use Rattle.model.proofs.Operations.ReadOperations.{is_first, first_read}
use Rattle.compound.specs.Operates.{comes_first}

first_is : (argument : Argument) → comes_first argument ≡ is_first (operation_of argument)
first_is (Argument.Access a) = refl
first_is (Argument.Close a) = refl
first_is (Argument.Commit a) = refl
first_is (Argument.Create a) = refl
first_is (Argument.GetAttr a) = refl
first_is Argument.GetFh = refl
first_is (Argument.Lookup a) = refl
first_is Argument.LookupParent = refl
first_is (Argument.Open a) = refl
first_is (Argument.PutFh a) = refl
first_is Argument.PutRootFh = refl
first_is (Argument.Read a) = refl
first_is (Argument.ReadDir a) = refl
first_is (Argument.Remove a) = refl
first_is (Argument.Rename a) = refl
first_is Argument.RestoreFh = refl
first_is Argument.SaveFh = refl
first_is (Argument.SetAttr a) = refl
first_is (Argument.Write a) = refl
first_is (Argument.ExchangeId a) = refl
first_is (Argument.CreateSession a) = refl
first_is (Argument.DestroySession a) = refl
first_is (Argument.Sequence a) = refl
first_is (Argument.DestroyClientId a) = refl
first_is (Argument.ReclaimComplete a) = refl

pub first_alone : (request : InProgress) (argument : Argument) (rest : List ℕ) → next_operation request ≡ Reads argument rest
    → comes_first argument ≡ true → request.answered ≡ 0
first_alone request argument rest is comes = first_read request argument rest is (sym (first_is argument) ∙ comes)
