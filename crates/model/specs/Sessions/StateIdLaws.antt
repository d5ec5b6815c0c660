-- What an open's stateid means once it was returned: RFC 8881, sections 8.2.2 to 8.2.4, 18.2
-- (CLOSE) and 18.16 (OPEN).
use Rattle.std.specs.Prelude.{ℕ, ◌-◌, ◌^◌, ◌≡◌, ◌≢◌, ◌≤◌, ◌<◌, ◌⊎◌, Bool, true, false, Option, Some, None}
use Rattle.model_tree.specs.declared.status.Status.TheVariants as status
use Rattle.model.specs.Operations.Answer.{Answer, Outcome, OpenAnswer}
use Rattle.model.specs.Operations.Context.{Context, current_number}
use Rattle.model_tree.specs.Trees.Keyed.{at}
use Rattle.model_tree.specs.declared.limits.Limits.{Limits}
use Rattle.model.specs.Sessions.Opens.{Opens, Open}
use Rattle.model.specs.Sessions.OpensLaws.{AreOpens}
use Rattle.model.specs.Operations.Operation.{Argument, OpenArguments}
use Rattle.model.specs.Sessions.StateIds.{Refused, Names, found, upgraded, open_stateid}
use Rattle.model.specs.Operations.Step.{State, does}

-- The context of its use

-- an open of the session's client on the current file
pub record IsOwn (context : Context) (known : Open) : Type 0 where
  pub client : known.client ≡ context.client
  pub file : known.number ≡ current_number context

-- a run and a serial as the server gives them
pub record IsGiven (run serial : ℕ) : Type 0 where
  pub counted : run < 2 ^ 32
  pub some : 0 < serial
  pub small : serial < 2 ^ 64

-- there is an open of this serial
pub record OpenStands (opens : Opens) (context : Context) (serial : ℕ) (known : Open) : Type 0 where
  pub given : IsGiven context.run serial
  pub there : at serial opens.known ≡ Some known

-- with the seqid of the open it is the newest, and names the open
abbrev pub NewestIsFound : Type 0
NewestIsFound =
    (opens : Opens) (context : Context) (serial : ℕ) (known : Open)
    → OpenStands opens context serial known
    → IsOwn context known → found opens context (open_stateid context.run serial known.seqid)
    ≡ Names serial known

-- with a lower seqid it is old
abbrev pub LowerIsOld : Type 0
LowerIsOld =
    (opens : Opens) (context : Context) (serial : ℕ) (known : Open)
    → OpenStands opens context serial known
    → IsOwn context known → (seqid : ℕ) → 0 < seqid → seqid < known.seqid
    → found opens context (open_stateid context.run serial seqid) ≡ Refused status.OldStateId

-- and so is what was the newest once the open is joined, unless seqids begin again at 1
abbrev pub JoinedIsOld : Type 0
JoinedIsOld = (opens : Opens) (context : Context) (serial access : ℕ) (known : Open)
    → OpenStands opens context serial (upgraded access known) → IsOwn context known
    → 0 < known.seqid → known.seqid < 2 ^ 32 - 1
    → found opens context (open_stateid context.run serial known.seqid) ≡ Refused status.OldStateId

-- for another client, or on another file, it is BAD_STATEID
abbrev pub NotOwnIsBad : Type 0
NotOwnIsBad =
    (opens : Opens) (context : Context) (serial : ℕ) (known : Open)
    → OpenStands opens context serial known
    → ((known.client ≢ context.client) ⊎ (known.number ≢ current_number context)) → (seqid : ℕ)
    → found opens context (open_stateid context.run serial seqid) ≡ Refused status.BadStateId

-- in another run
abbrev pub OtherRunIsBad : Type 0
OtherRunIsBad =
    (opens : Opens) (context : Context) (run serial seqid : ℕ) → IsGiven run serial
    → context.run < 2 ^ 32
    → run ≢ context.run → found opens context (open_stateid run serial seqid)
    ≡ Refused status.BadStateId

-- and if there is no open of its serial
abbrev pub EndedIsBad : Type 0
EndedIsBad = (opens : Opens) (context : Context) (serial seqid : ℕ) → IsGiven context.run serial
    → at serial opens.known ≡ None
    → found opens context (open_stateid context.run serial seqid) ≡ Refused status.BadStateId

-- What operations make of opens

-- OPEN returns the newest stateid of an open that there is then, of its client on the current file
pub record IsAnswered (answer : OpenAnswer) (after : State) : Type 0 where
  pub serial : ℕ
  pub known : Open
  pub state : answer.state ≡ open_stateid after.context.run serial known.seqid
  pub there : at serial after.opens.known ≡ Some known
  pub own : IsOwn after.context known

abbrev pub OpenAnswersNewest : Type 0
OpenAnswersNewest =
    (limits : Limits) (state : State) (now : ℕ) (arguments : OpenArguments) (answer : OpenAnswer)
    → AreOpens limits state.tree state.opens
    → (does limits state now (Argument.Open arguments)).outcome ≡ Outcome.Done (Answer.Open answer)
    → IsAnswered answer (does limits state now (Argument.Open arguments)).state

abbrev pub is_open : Argument → Bool
is_open (Argument.Open arguments) = true
is_open _ = false

abbrev pub may_end_opens : Argument → Bool
may_end_opens (Argument.Close arguments) = true
may_end_opens (Argument.Remove name) = true
may_end_opens (Argument.Rename arguments) = true
may_end_opens _ = false

abbrev pub IsJoined : Argument → Open → Option Open → Type 0
IsJoined operation known left =
    (is_open operation ≡ true) × ((access : ℕ) × (left ≡ Some (upgraded access known)))

abbrev pub HasEnded : Argument → Option Open → Type 0
HasEnded operation left = (may_end_opens operation ≡ true) × (left ≡ None)

-- an open stays as it is, or is joined by an OPEN, or is ended by a CLOSE, a REMOVE or a RENAME;
-- one that ended stays so
pub record EachOpenGoesOn (operation : Argument) (old new : Opens) : Type 0 where
  pub each : (serial : ℕ) (known : Open) → at serial old.known ≡ Some known
      → (at serial new.known ≡ Some known)
      ⊎ (IsJoined operation known (at serial new.known) ⊎ HasEnded operation (at serial new.known))
  pub ended : (serial : ℕ) → serial ≤ old.given → at serial old.known ≡ None
      → at serial new.known ≡ None

abbrev pub EveryOpenGoesOn : Type 0
EveryOpenGoesOn =
    (limits : Limits) (state : State) (now : ℕ) (operation : Argument)
    → AreOpens limits state.tree state.opens
    → EachOpenGoesOn operation state.opens (does limits state now operation).state.opens
