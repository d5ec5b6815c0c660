-- Results whose encoding is short.
use Rattle.std.specs.Prelude.{◌≢◌, ◌≤◌, IsTrue, length}
use Rattle.xdr.specs.Forms.{is_trimmed}
use Rattle.model_tree.specs.declared.status.Status.{Status}
use Rattle.model_tree.specs.Refusals.Status.{code_of}
use Rattle.model.specs.Operations.Answer as spec

-- a status that refuses
abbrev pub IsRefusal : Status → Type 0
IsRefusal reason = code_of reason ≢ 0

-- What the types of the fields do not say. The results of GETATTR, READ, READDIR and EXCHANGE_ID
-- may be long.
abbrev pub IsShortAnswer : spec.Answer → Type 0
IsShortAnswer (spec.Answer.Access a) = Unit {0}
IsShortAnswer (spec.Answer.Close a) = Unit {0}
IsShortAnswer (spec.Answer.Commit a) = Unit {0}
IsShortAnswer (spec.Answer.Create a) = IsTrue (is_trimmed a.was_set)
IsShortAnswer (spec.Answer.GetAttr a) = ⊥
IsShortAnswer (spec.Answer.GetFh handle) = length handle ≤ 128
IsShortAnswer spec.Answer.Lookup = Unit {0}
IsShortAnswer spec.Answer.LookupParent = Unit {0}
IsShortAnswer (spec.Answer.Open a) = IsTrue (is_trimmed a.was_set)
IsShortAnswer spec.Answer.PutFh = Unit {0}
IsShortAnswer spec.Answer.PutRootFh = Unit {0}
IsShortAnswer (spec.Answer.Read a) = ⊥
IsShortAnswer (spec.Answer.ReadDir a) = ⊥
IsShortAnswer (spec.Answer.Remove change) = Unit {0}
IsShortAnswer (spec.Answer.Rename a) = Unit {0}
IsShortAnswer spec.Answer.RestoreFh = Unit {0}
IsShortAnswer spec.Answer.SaveFh = Unit {0}
IsShortAnswer (spec.Answer.SetAttr was_set) = IsTrue (is_trimmed was_set)
IsShortAnswer (spec.Answer.Write a) = Unit {0}
IsShortAnswer (spec.Answer.ExchangeId a) = ⊥
IsShortAnswer (spec.Answer.CreateSession a) = Unit {0}
IsShortAnswer spec.Answer.DestroySession = Unit {0}
IsShortAnswer (spec.Answer.Sequence a) = Unit {0}
IsShortAnswer spec.Answer.DestroyClientId = Unit {0}
IsShortAnswer spec.Answer.ReclaimComplete = Unit {0}
