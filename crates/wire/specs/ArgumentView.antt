-- An operation with its arguments as the value of the definitions.
use Rattle.model.specs.Operations.Operation as spec
use Rattle.wire.specs.declared.argument.Argument.{Argument}
use Rattle.wire.specs.declared.argument.Argument.TheVariants as argument
use Rattle.wire.specs.ArgumentViews.{close_view, commit_view, read_view, write_view, set_attr_view, read_dir_view, rename_view, create_view, open_view, exchange_id_view, create_session_view, sequence_view}

abbrev pub argument_view : Argument → spec.Argument
argument_view (argument.Access a) = spec.Argument.Access a
argument_view (argument.Close a) = spec.Argument.Close (close_view a)
argument_view (argument.Commit a) = spec.Argument.Commit (commit_view a)
argument_view (argument.Create a) = spec.Argument.Create (create_view a)
argument_view (argument.GetAttr a) = spec.Argument.GetAttr a
argument_view argument.GetFh = spec.Argument.GetFh
argument_view (argument.Lookup a) = spec.Argument.Lookup a.now
argument_view argument.LookupParent = spec.Argument.LookupParent
argument_view (argument.Open a) = spec.Argument.Open (open_view a)
argument_view (argument.PutFh a) = spec.Argument.PutFh a.now
argument_view argument.PutRootFh = spec.Argument.PutRootFh
argument_view (argument.Read a) = spec.Argument.Read (read_view a)
argument_view (argument.ReadDir a) = spec.Argument.ReadDir (read_dir_view a)
argument_view (argument.Remove a) = spec.Argument.Remove a.now
argument_view (argument.Rename a) = spec.Argument.Rename (rename_view a)
argument_view argument.RestoreFh = spec.Argument.RestoreFh
argument_view argument.SaveFh = spec.Argument.SaveFh
argument_view (argument.SetAttr a) = spec.Argument.SetAttr (set_attr_view a)
argument_view (argument.Write a) = spec.Argument.Write (write_view a)
argument_view (argument.ExchangeId a) = spec.Argument.ExchangeId (exchange_id_view a)
argument_view (argument.CreateSession a) = spec.Argument.CreateSession (create_session_view a)
argument_view (argument.DestroySession a) = spec.Argument.DestroySession a
argument_view (argument.Sequence a) = spec.Argument.Sequence (sequence_view a)
argument_view (argument.DestroyClientId a) = spec.Argument.DestroyClientId a
argument_view (argument.ReclaimComplete a) = spec.Argument.ReclaimComplete a
