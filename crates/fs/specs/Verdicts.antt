-- The verdicts on a stateid that READ, WRITE and SETATTR may be given (RFC 8881, sections 8.2.2 to
-- 8.2.4): no refusal; or that it names no open, an old seqid of one, or one without this access.
-- Each is given in some state.
use Rattle.std.specs.Prelude.{ℕ, Result, Ok, Err, Some, None, [], codes, ◌≡◌, ◌≤◌, ◌<◌, ◌^◌, ◌⊎◌, IsTrue, IsFalse}
use Rattle.model_tree.specs.declared.acl.Cred.{Cred}
use Rattle.model_tree.specs.declared.status.Status.{Status}
use Rattle.model_tree.specs.declared.status.Status.TheVariants as status
use Rattle.model.specs.Examples.FileExamples.{anonymous, current_state, number, stateid}
use Rattle.model_tree.specs.Trees.Keyed.{is_key}
use Rattle.model.specs.Sessions.Opens.{Open, Opens, no_opens}
use Rattle.model.specs.Sessions.OpensLaws.{AreOpens}
use Rattle.model.specs.Operations.Operation.{SetAttrArguments, StateId, WriteArguments}
use Rattle.model.specs.Operations.State.{State}
use Rattle.model.specs.Sessions.StateIds.{new_open, opened, read_access, write_access}
use Rattle.model.specs.Examples.StepExamples.{caller}
use Rattle.model_tree.specs.Trees.Tree.{Tree, is_directory_at}
use Rattle.fs.specs.declared.setting.Setting.{Setting}
use Rattle.fs.specs.declared.writing.Writing.{Writing}
use Rattle.fs.specs.FileSystem.{FileSystem}
use Rattle.fs.specs.Files.{IsVerdict}
use Rattle.fs.specs.Operations.{IsOn}
use Rattle.fs.specs.Setting.{IsSetting}
use Rattle.fs.specs.Writing.{IsWriting}

-- no refusal, or one of three
abbrev pub IsPossible : Result (Unit {0}) Status → Type 0
IsPossible (Ok done) = Unit {0}
IsPossible (Err reason) = (reason ≡ status.BadStateId)
    ⊎ ((reason ≡ status.OldStateId) ⊎ (reason ≡ status.OpenMode))

-- whatever is open, no stateid gets another one
abbrev pub OnlyPossible : Type 0
OnlyPossible =
    (state : State) (access : ℕ) (stateid : StateId) (verdict : Result (Unit {0}) Status)
    → IsVerdict state access stateid verdict → IsPossible verdict

-- Each of them occurs

-- the number of a file
pub record IsFileAt (tree : Tree) (number : ℕ) : Type 0 where
  pub there : IsTrue (is_key number tree)
  pub is_file : IsFalse (is_directory_at tree number)

-- a stateid gets it in this state, whose opens are such as a run has if the node is a file
pub record Gets (fs : FileSystem) (cred : Cred) (number access : ℕ)
    (verdict : Result (Unit {0}) Status) (state : State) (stateid : StateId) : Type 0 where
  pub on : IsOn fs cred number state
  pub verdict_is : IsVerdict state access stateid verdict
  pub opens : IsFileAt fs.volume.tree number → 1 ≤ fs.volume.limits.opens
      → AreOpens fs.volume.limits fs.volume.tree state.opens

abbrev pub IsUsed : (access : ℕ) → Type 0
IsUsed access = (access ≡ read_access) ⊎ (access ≡ write_access)

abbrev pub EachIsGot : Type 0
EachIsGot =
    (fs : FileSystem) (cred : Cred) (number access : ℕ) (verdict : Result (Unit {0}) Status)
    → fs.volume.run < 2 ^ 32 → IsUsed access → IsPossible verdict
    → (state : State) × (stateid : StateId) × Gets fs cred number access verdict state stateid

-- so each call is one of some operation, in some state
abbrev pub EachWriteIsMeant : Type 0
EachWriteIsMeant =
    (fs : FileSystem) (cred : Cred) (number : ℕ) (verdict : Result (Unit {0}) Status)
    (asked : Writing) → fs.volume.run < 2 ^ 32 → IsPossible verdict
    → (state : State) × (arguments : WriteArguments)
    × IsOn fs cred number state × IsWriting state verdict asked arguments

abbrev pub EachSettingIsMeant : Type 0
EachSettingIsMeant =
    (fs : FileSystem) (cred : Cred) (asked : Setting) → fs.volume.run < 2 ^ 32
    → IsPossible asked.verdict
    → (state : State) × (arguments : SetAttrArguments)
    × IsOn fs cred asked.number state × IsSetting state asked arguments

-- Worked out by hand, with a client's opens of a file as OPEN makes them

abbrev pub asked : (access : ℕ) → Open
asked access = new_open 7 (codes "A") number access

-- a COMPOUND of this client on the file
abbrev pub on_file : Opens → State
on_file opens = record {
  tree = [];
  changes = 1;
  opens = opens;
  context = record {
    cred = caller 7;
    client = 7;
    run = 1;
    current = Some (record { number = number; state = None });
    saved = None;
  };
}

-- for both, twice by one owner: the stateid's seqid is 2
abbrev pub twice : State
twice = on_file (opened (opened no_opens (asked 3)).opens (asked 3)).opens

-- only for reading
abbrev pub to_read : State
to_read = on_file (opened no_opens (asked read_access)).opens

pub record VerdictExamples : Type 0 where
  pub newest : IsVerdict twice write_access (stateid 2) (Ok tt)
  pub old : IsVerdict twice write_access (stateid 1) (Err status.OldStateId)
  pub not_given : IsVerdict twice write_access (stateid 3) (Err status.BadStateId)
  pub none_current : IsVerdict twice write_access current_state (Err status.BadStateId)
  pub none : IsVerdict twice write_access anonymous (Ok tt)
  pub to_be_read : IsVerdict to_read read_access (stateid 1) (Ok tt)
  pub not_to_be_written : IsVerdict to_read write_access (stateid 1) (Err status.OpenMode)
