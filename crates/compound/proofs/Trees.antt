-- The operations on a world are those on its file system's tree.
use Rattle.std.proofs.Common.{◌≡◌, ◌≢◌, ℕ, ◌==◌, Bool, true, false, not, ◌&&◌, if◌then◌else◌, List, [], ◌∷◌, ◌++◌, Option, Some, None, Ok, Err, flat_map, unwrap_or, refl, sym, ap, subst, ◌∙◌}
use Rattle.fs.specs.FileSystem.{FileSystem}
use Rattle.fs.specs.Parents.{LooksUpParent}
use Rattle.fs.specs.Operations.{IsOn, LooksUp, PutsHandle, GetsHandle, TestsCurrent, current_refusal}
use Rattle.fs.specs.declared.fault.FsFault.{FsFault}
use Rattle.fs.specs.declared.fault.FsFault.TheVariants as fault
use Rattle.model.specs.Operations.Answer.{Answer, Outcome, Done, Refused}
use Rattle.std.proofs.lemmas.List.Concat.{flat_map-cons}
use Rattle.std.proofs.lemmas.Bool.{and_parts}
use Rattle.model.specs.Attributes.Attribute.{attribute_refusals, entry_refusals, value_refusals, values_of}
use Rattle.model.specs.Attributes.AttributeValue.{Value, Acl}
use Rattle.model.specs.Operations.Context.{Context, has_current, current_number, at_node, has_saved, saving, restored, is_same_name}
use Rattle.model_tree.specs.Trees.Keyed.{is_key}
use Rattle.model_tree.specs.declared.limits.Limits.{Limits}
use Rattle.model_tree.specs.Refusals.Name.{name_refusals}
use Rattle.model.specs.Sessions.Opens.{Opens, no_opens}
use Rattle.model.specs.Operations.Operation.{Argument, Attributes, NewDirectory, OtherType, RenameArguments, operation_of}
use Rattle.model_tree.specs.Refusals.Refusal.{Refusals, first_refusal, refused_or}
use Rattle.model.specs.Sessions.Session.{Table}
use Rattle.model_tree.specs.Refusals.Status.{code_of}
use Rattle.model.specs.Operations.Step.{State, Stepped, does, refused, refusals, effect, late, without_rights, change_refusals, unless_refused, current, current_refusals, answered, rename, rename_refusals, late_at_rename, need_first, need_then}
use Rattle.model_tree.specs.Trees.Tree.{root}
use Rattle.model.specs.Server.World.{World, InProgress, Gives, run, stepped, state_of, reclaimed}
use Rattle.model_tree.specs.declared.node.NodeKind.{NodeKind}
use Rattle.model_tree.specs.declared.node.NodeKind.TheVariants as kind
use Rattle.model_tree.specs.declared.status.Status.{Status}
use Rattle.model_tree.specs.declared.status.Status.TheVariants as status
use Rattle.model_tree.proofs.Facts.BooleanLaws.{never_both}
use Rattle.wire.specs.Short.{IsRefusal}
use Rattle.compound.specs.Operates.{RunsTo}
use Rattle.compound.specs.Runs.{with_rest}
use Rattle.compound.specs.States.{HasState, shared}
use Rattle.compound.specs.Trees.{IsStatus, IsHere}
use Rattle.compound.proofs.Current.{ran_root, takes_current, wants_current}
use Rattle.compound.proofs.Rooms.{state_same}

-- The state of a world by a request

pub here : (world : World) (fs : FileSystem) (table : Table) (opens : Opens) (request : InProgress) (rest : List ℕ) → HasState world (shared fs table opens)
    → IsHere fs request (state_of world (with_rest request rest))
here world fs table opens request rest on = record { tree_is = on.tree; changes_is = on.changes; context_is = refl }

pub is_on : (fs : FileSystem) (request : InProgress) (number : ℕ) (state : State) → request.context.run ≡ fs.volume.run
    → has_current request.context ≡ true → current_number request.context ≡ number → IsHere fs request state
    → IsOn fs request.context.cred number state
is_on fs request number state in_run has is there = record {
  is_state = record {
    tree_is = there.tree_is;
    cred_is = ap (λ (c : Context). c.cred) there.context_is;
    has_current = subst (λ (c : Context). has_current c ≡ true) (sym there.context_is) has;
    current_is = ap current_number there.context_is ∙ is;
  };
  run = ap (λ (c : Context). c.run) there.context_is ∙ in_run;
  changes = there.changes_is;
}

-- some state is one
abbrev pub of_request : FileSystem → InProgress → State
of_request fs request = record { tree = fs.volume.tree; changes = fs.changes; opens = no_opens; context = request.context }

pub is_there : (fs : FileSystem) (request : InProgress) → IsHere fs request (of_request fs request)
is_there fs request = record { tree_is = refl; changes_is = refl; context_is = refl }

-- Faults of a file system that is up

pub looks_status : (fs : FileSystem) (state : State) (now : ℕ) (name : List ℕ) (why : FsFault) → fs.volume.is_down ≡ false
    → LooksUp fs state now name (Err why) → IsStatus why
looks_status fs state now name (fault.Status reason) up is = tt
looks_status fs state now name fault.NoRoom up is = is
looks_status fs state now name fault.Memory up is = is
looks_status fs state now name fault.Device up is = is
looks_status fs state now name fault.Down up is = never_both fs.volume.is_down up is

pub parent_status : (fs : FileSystem) (state : State) (now : ℕ) (why : FsFault) → fs.volume.is_down ≡ false
    → LooksUpParent fs state now (Err why) → IsStatus why
parent_status fs state now (fault.Status reason) up is = tt
parent_status fs state now fault.NoRoom up is = is
parent_status fs state now fault.Memory up is = is
parent_status fs state now fault.Device up is = is
parent_status fs state now fault.Down up is = never_both fs.volume.is_down up is

pub puts_status : (fs : FileSystem) (state : State) (now : ℕ) (handle : List ℕ) (why : FsFault) → fs.volume.is_down ≡ false
    → PutsHandle fs state now handle (Err why) → IsStatus why
puts_status fs state now handle (fault.Status reason) up is = tt
puts_status fs state now handle fault.NoRoom up is = is
puts_status fs state now handle fault.Memory up is = is
puts_status fs state now handle fault.Device up is = is
puts_status fs state now handle fault.Down up is = never_both fs.volume.is_down up is

pub gets_status : (fs : FileSystem) (state : State) (now : ℕ) (why : FsFault) → fs.volume.is_down ≡ false
    → GetsHandle fs state now (Err why) → IsStatus why
gets_status fs state now (fault.Status reason) up is = tt
gets_status fs state now fault.NoRoom up is = is
gets_status fs state now fault.Memory up is = is
gets_status fs state now fault.Device up is = is
gets_status fs state now fault.Down up is = never_both fs.volume.is_down up is

pub tests_status : (fs : FileSystem) (state : State) (why : FsFault) → fs.volume.is_down ≡ false
    → TestsCurrent fs state (Err why) → IsStatus why
tests_status fs state (fault.Status reason) up is = tt
tests_status fs state fault.NoRoom up is = is
tests_status fs state fault.Memory up is = is
tests_status fs state fault.Device up is = is
tests_status fs state fault.Down up is = never_both fs.volume.is_down up is

-- Every refusal has a status that is not OK

abbrev pub is_bad : Status → Bool
is_bad reason = not (code_of reason == 0)

abbrev pub all_bad : Refusals → Bool
all_bad [] = true
all_bad (test ∷ rest) = is_bad test.1 && all_bad rest

bad_refuses : (n : ℕ) → not (n == 0) ≡ true → n ≢ 0
bad_refuses n bad zero = absurd (bad_zero (subst (λ (k : ℕ). not (k == 0) ≡ true) zero bad))
  where
    bad_zero : not (0 == 0) ≡ true → ⊥
    bad_zero is = cc

first_bad_by : (test : Bool) (of reason : Status) (others : Option Status) → is_bad of ≡ true → (others ≡ Some reason → is_bad reason ≡ true)
    → refused_or test of others ≡ Some reason → is_bad reason ≡ true
first_bad_by true of reason others bad rest is = subst (λ (o : Option Status). bad_in o ≡ true) is bad
  where
    bad_in : Option Status → Bool
    bad_in None = true
    bad_in (Some one) = is_bad one
first_bad_by false of reason others bad rest is = rest is

first_bad : (tests : Refusals) (reason : Status) → all_bad tests ≡ true → first_refusal tests ≡ Some reason → is_bad reason ≡ true
first_bad [] reason bad is = absurd (cc)
first_bad (test ∷ rest) reason bad is =
    let each = and_parts (is_bad test.1) (all_bad rest) bad in
    first_bad_by test.0 test.1 reason (first_refusal rest) each.0 (first_bad rest reason each.1) is

pub append_bad : (prefix rest : Refusals) → all_bad prefix ≡ true → all_bad rest ≡ true → all_bad (prefix ++ rest) ≡ true
append_bad [] rest bad others = others
append_bad (test ∷ prefix) rest bad others =
    let each = and_parts (is_bad test.1) (all_bad prefix) bad in
    ap (λ (b : Bool). b && all_bad (prefix ++ rest)) each.0 ∙ append_bad prefix rest each.1 others

each_bad : {X : Type 0} (tests : X → Refusals) → ((x : X) → all_bad (tests x) ≡ true) → (xs : List X) → all_bad (flat_map tests xs) ≡ true
each_bad tests bad [] = refl
each_bad tests bad (x ∷ xs) =
    ap all_bad (flat_map-cons tests x xs) ∙ append_bad (tests x) (flat_map tests xs) (bad x) (each_bad tests bad xs)

value_bad : (limits : Limits) (kind : NodeKind) (value : Value) → all_bad (value_refusals limits kind value) ≡ true
value_bad limits kind (Acl entries) = each_bad (entry_refusals kind) (λ entry. refl) entries
value_bad limits kind value = refl

pub values_bad : (limits : Limits) (kind : NodeKind) (values : List Value) → all_bad (flat_map (value_refusals limits kind) values) ≡ true
values_bad limits kind values = each_bad (value_refusals limits kind) (value_bad limits kind) values

done≢refused : (answer : Answer) (number : ℕ) (reason : Status) → Done answer ≡ Refused number reason → ⊥
done≢refused answer number reason is = cc

same_reason : (number : ℕ) (of reason : Status) → Refused number of ≡ Refused number reason → of ≡ reason
same_reason number of reason is = cc

unless_bad : (state : State) (kind : Argument) (reason : Status) (answer : Answer) (first : Option Status) (after : Stepped)
    → ((of : Status) → first ≡ Some of → is_bad of ≡ true) → after.outcome ≡ Done answer
    → unless_refused state kind first after ≡ refused state kind reason → is_bad reason ≡ true
unless_bad state kind reason answer None after bad done is =
    absurd (done≢refused answer (operation_of kind) reason (sym done ∙ ap (λ (s : Stepped). s.outcome) is))
unless_bad state kind reason answer (Some of) after bad done is =
    subst (λ (r : Status). is_bad r ≡ true) (same_reason (operation_of kind) of reason (ap (λ (s : Stepped). s.outcome) is)) (bad of refl)

pub does_bad : (limits : Limits) (state : State) (now : ℕ) (kind : Argument) (reason : Status) (answer : Answer)
    → all_bad (refusals limits state kind) ≡ true → (effect limits state now kind).outcome ≡ Done answer
    → does limits state now kind ≡ refused state kind reason → IsRefusal reason
unfolding does
does_bad limits state now kind reason answer bad done is =
    let tests = refusals limits state kind ++ change_refusals limits state kind (effect limits state now kind).state.tree in
    bad_refuses (code_of reason) (unless_bad state kind reason answer (first_refusal tests) (effect limits state now kind)
    (λ of first. first_bad tests of (append_bad (refusals limits state kind) (change_refusals limits state kind (effect limits state now kind).state.tree) bad refl) first)
    done is)

pub lookup_bad : (limits : Limits) (state : State) (now : ℕ) (name : List ℕ) (reason : Status)
    → does limits state now (Argument.Lookup name) ≡ refused state (Argument.Lookup name) reason → IsRefusal reason
unfolding refusals name_refusals effect
lookup_bad limits state now name reason is = does_bad limits state now (Argument.Lookup name) reason Answer.Lookup refl refl is

pub parent_bad : (limits : Limits) (state : State) (now : ℕ) (reason : Status)
    → does limits state now Argument.LookupParent ≡ refused state Argument.LookupParent reason → IsRefusal reason
unfolding refusals effect
parent_bad limits state now reason is = does_bad limits state now Argument.LookupParent reason Answer.LookupParent refl refl is

pub put_bad : (limits : Limits) (state : State) (now : ℕ) (handle : List ℕ) (reason : Status)
    → does limits state now (Argument.PutFh handle) ≡ refused state (Argument.PutFh handle) reason → IsRefusal reason
unfolding refusals effect
put_bad limits state now handle reason is = does_bad limits state now (Argument.PutFh handle) reason Answer.PutFh refl refl is

pub get_bad : (limits : Limits) (state : State) (now : ℕ) (reason : Status)
    → does limits state now Argument.GetFh ≡ refused state Argument.GetFh reason → IsRefusal reason
unfolding refusals effect
get_bad limits state now reason is = does_bad limits state now Argument.GetFh reason _ refl refl is

pub create_bad : (limits : Limits) (state : State) (now : ℕ) (name : List ℕ) (given : Attributes) (reason : Status)
    → does limits state now (Argument.Create (NewDirectory name given)) ≡ refused state (Argument.Create (NewDirectory name given)) reason → IsRefusal reason
unfolding refusals name_refusals attribute_refusals effect
create_bad limits state now name given reason is =
    let values = unwrap_or (values_of given) [] in
    let kind_of : Argument = Argument.Create (NewDirectory name given) in
    does_bad limits state now kind_of reason _
    (append_bad (flat_map (value_refusals limits kind.Directory) values)
    ((without_rights state (need_first state.tree state.context kind_of), status.Access)
    ∷ (without_rights state (need_then state.tree state.context kind_of), status.Access)
    ∷ late limits state kind_of)
    (values_bad limits kind.Directory values) refl)
    refl is

pub remove_bad : (limits : Limits) (state : State) (now : ℕ) (name : List ℕ) (reason : Status)
    → does limits state now (Argument.Remove name) ≡ refused state (Argument.Remove name) reason → IsRefusal reason
unfolding refusals name_refusals effect
remove_bad limits state now name reason is = does_bad limits state now (Argument.Remove name) reason _ refl refl is

late_bad : (same : Bool) (state : State) (arguments : RenameArguments)
    → all_bad (if same then [] else late_at_rename state arguments) ≡ true
late_bad true state arguments = refl
late_bad false state arguments = refl

rename_done : (same : Bool) (state : State) (now : ℕ) (arguments : RenameArguments)
    → (answer : Answer) × ((rename same state now arguments).outcome ≡ Done answer)
rename_done true state now arguments = (_, refl)
rename_done false state now arguments = (_, refl)

pub rename_bad : (limits : Limits) (state : State) (now : ℕ) (arguments : RenameArguments) (reason : Status)
    → does limits state now (Argument.Rename arguments) ≡ refused state (Argument.Rename arguments) reason → IsRefusal reason
unfolding refusals name_refusals effect
rename_bad limits state now arguments reason is =
    let kind_of : Argument = Argument.Rename arguments in
    let done = rename_done (is_same_name state.context arguments) state now arguments in
    does_bad limits state now kind_of reason done.0
    (append_bad (current_refusals state ++ rename_refusals limits state arguments)
    ((without_rights state (need_first state.tree state.context kind_of), status.Access)
    ∷ (without_rights state (need_then state.tree state.context kind_of), status.Access)
    ∷ late limits state kind_of)
    refl (late_bad (is_same_name state.context arguments) state arguments))
    done.1 is

pub current_bad : (state : State) (reason : Status) → current_refusal state ≡ Some reason → IsRefusal reason
current_bad state reason is = bad_refuses (code_of reason) (first_bad (current_refusals state) reason refl is)

pub current_none : (state : State) → has_current state.context ≡ false → current_refusal state ≡ Some status.NoFileHandle
current_none state none = rw none refl

-- What operations come to

module _ (now : ℕ) (fs : FileSystem) (table : Table) (opens : Opens) (request : InProgress) where
  pub tree_runs : (left : Context) (kind : Argument) (outcome : Outcome)
      → ((world : World) (rest : List ℕ) → run world (with_rest request rest) now kind
      ≡ stepped world (with_rest request rest) (does world.limits.volume (state_of world (with_rest request rest)) now kind))
      → ((world : World) (rest : List ℕ) → HasState world (shared fs table opens) → does fs.volume.limits (state_of world (with_rest request rest)) now kind
      ≡ record { outcome = outcome; state = record (state_of world (with_rest request rest)) { context = left } })
      → RunsTo now (shared fs table opens) (shared fs table opens) request (record request { context = left }) kind outcome
  tree_runs left kind outcome on_tree does_so = λ world rest on.
      on_tree world rest
      ∙ (ap (λ (limits : Limits). stepped world (with_rest request rest) (does limits (state_of world (with_rest request rest)) now kind)) on.volume
      ∙ (ap (stepped world (with_rest request rest)) (does_so world rest on)
      ∙ ap (λ (after : World). Gives outcome after (with_rest (record request { context = left }) rest)) (sym (state_same world (shared fs table opens) on))))

  -- if there is no current filehandle
  pub wants : (kind : Argument) → takes_current kind ≡ true → has_current request.context ≡ false
      → RunsTo now (shared fs table opens) (shared fs table opens) request request kind (Refused (operation_of kind) status.NoFileHandle)
  wants kind takes none = λ world rest on.
      wants_current world (with_rest request rest) now kind none takes
      ∙ ap (λ (after : World). Gives (Refused (operation_of kind) status.NoFileHandle) after (with_rest request rest)) (sym (state_same world (shared fs table opens) on))

  pub root_runs : RunsTo now (shared fs table opens) (shared fs table opens) request (record request { context = at_node request.context root }) Argument.PutRootFh (Done Answer.PutRootFh)
  root_runs = λ world rest on.
      ran_root world (with_rest request rest) now
      ∙ ap (λ (after : World). Gives (Done Answer.PutRootFh) after (with_rest (record request { context = at_node request.context root }) rest)) (sym (state_same world (shared fs table opens) on))

  module _ (name : List ℕ) where
    pub looked_ok : (number : ℕ) → ((state : State) → IsHere fs request state → LooksUp fs state now name (Ok number))
        → RunsTo now (shared fs table opens) (shared fs table opens) request (record request { context = at_node request.context number }) (Argument.Lookup name) (Done Answer.Lookup)
    unfolding run
    looked_ok number does_so = tree_runs (at_node request.context number) (Argument.Lookup name) (Done Answer.Lookup) (λ world rest. refl)
        (λ world rest on. does_so (state_of world (with_rest request rest)) (here world fs table opens request rest on))

    pub looked_err : (reason : Status) → ((state : State) → IsHere fs request state → LooksUp fs state now name (Err (fault.Status reason)))
        → RunsTo now (shared fs table opens) (shared fs table opens) request request (Argument.Lookup name) (Refused 15 reason)
    unfolding run
    looked_err reason does_so = tree_runs request.context (Argument.Lookup name) (Refused 15 reason) (λ world rest. refl)
        (λ world rest on. does_so (state_of world (with_rest request rest)) (here world fs table opens request rest on))

    pub put_ok : (number : ℕ) → ((state : State) → IsHere fs request state → PutsHandle fs state now name (Ok number))
        → RunsTo now (shared fs table opens) (shared fs table opens) request (record request { context = at_node request.context number }) (Argument.PutFh name) (Done Answer.PutFh)
    unfolding run
    put_ok number does_so = tree_runs (at_node request.context number) (Argument.PutFh name) (Done Answer.PutFh) (λ world rest. refl)
        (λ world rest on. does_so (state_of world (with_rest request rest)) (here world fs table opens request rest on))

    pub put_err : (reason : Status) → ((state : State) → IsHere fs request state → PutsHandle fs state now name (Err (fault.Status reason)))
        → RunsTo now (shared fs table opens) (shared fs table opens) request request (Argument.PutFh name) (Refused 22 reason)
    unfolding run
    put_err reason does_so = tree_runs request.context (Argument.PutFh name) (Refused 22 reason) (λ world rest. refl)
        (λ world rest on. does_so (state_of world (with_rest request rest)) (here world fs table opens request rest on))

  pub parent_ok : (number : ℕ) → ((state : State) → IsHere fs request state → LooksUpParent fs state now (Ok number))
      → RunsTo now (shared fs table opens) (shared fs table opens) request (record request { context = at_node request.context number }) Argument.LookupParent (Done Answer.LookupParent)
  unfolding run
  parent_ok number does_so = tree_runs (at_node request.context number) Argument.LookupParent (Done Answer.LookupParent) (λ world rest. refl)
      (λ world rest on. does_so (state_of world (with_rest request rest)) (here world fs table opens request rest on))

  pub parent_err : (reason : Status) → ((state : State) → IsHere fs request state → LooksUpParent fs state now (Err (fault.Status reason)))
      → RunsTo now (shared fs table opens) (shared fs table opens) request request Argument.LookupParent (Refused 16 reason)
  unfolding run
  parent_err reason does_so = tree_runs request.context Argument.LookupParent (Refused 16 reason) (λ world rest. refl)
      (λ world rest on. does_so (state_of world (with_rest request rest)) (here world fs table opens request rest on))

  pub got_ok : (handle : List ℕ) → ((state : State) → IsHere fs request state → GetsHandle fs state now (Ok handle))
      → RunsTo now (shared fs table opens) (shared fs table opens) request request Argument.GetFh (Done (Answer.GetFh handle))
  unfolding run
  got_ok handle does_so = tree_runs request.context Argument.GetFh (Done (Answer.GetFh handle)) (λ world rest. refl)
      (λ world rest on. does_so (state_of world (with_rest request rest)) (here world fs table opens request rest on))

  pub got_err : (reason : Status) → ((state : State) → IsHere fs request state → GetsHandle fs state now (Err (fault.Status reason)))
      → RunsTo now (shared fs table opens) (shared fs table opens) request request Argument.GetFh (Refused 10 reason)
  unfolding run
  got_err reason does_so = tree_runs request.context Argument.GetFh (Refused 10 reason) (λ world rest. refl)
      (λ world rest on. does_so (state_of world (with_rest request rest)) (here world fs table opens request rest on))

  pub reclaim_ok : ((state : State) → IsHere fs request state → current_refusal state ≡ None)
      → RunsTo now (shared fs table opens) (shared fs table opens) request request (Argument.ReclaimComplete true) (Done Answer.ReclaimComplete)
  unfolding run
  reclaim_ok tests = λ world rest on.
      ap (reclaimed world (with_rest request rest)) (tests (state_of world (with_rest request rest)) (here world fs table opens request rest on))
      ∙ ap (λ (after : World). Gives (Done Answer.ReclaimComplete) after (with_rest request rest)) (sym (state_same world (shared fs table opens) on))

  pub reclaim_err : (reason : Status) → ((state : State) → IsHere fs request state → current_refusal state ≡ Some reason)
      → RunsTo now (shared fs table opens) (shared fs table opens) request request (Argument.ReclaimComplete true) (Refused 58 reason)
  unfolding run
  reclaim_err reason tests = λ world rest on.
      ap (reclaimed world (with_rest request rest)) (tests (state_of world (with_rest request rest)) (here world fs table opens request rest on))
      ∙ ap (λ (after : World). Gives (Refused 58 reason) after (with_rest request rest)) (sym (state_same world (shared fs table opens) on))

  -- SAVEFH and RESTOREFH

  save_does : (state : State) (first : Option Status) → current_refusal state ≡ first
      → does fs.volume.limits state now Argument.SaveFh
      ≡ unless_refused state Argument.SaveFh first (answered (record state { context = saving state.context }) Answer.SaveFh)
  unfolding does refusals effect
  save_does state first is =
      ap (λ (one : Option Status). unless_refused state Argument.SaveFh one (answered (record state { context = saving state.context }) Answer.SaveFh)) is

  pub save_ok : ((state : State) → IsHere fs request state → current_refusal state ≡ None)
      → RunsTo now (shared fs table opens) (shared fs table opens) request (record request { context = saving request.context }) Argument.SaveFh (Done Answer.SaveFh)
  unfolding run
  save_ok tests = tree_runs (saving request.context) Argument.SaveFh (Done Answer.SaveFh) (λ world rest. refl)
      (λ world rest on. let state = state_of world (with_rest request rest) in save_does state None (tests state (here world fs table opens request rest on)))

  pub save_err : (reason : Status) → ((state : State) → IsHere fs request state → current_refusal state ≡ Some reason)
      → RunsTo now (shared fs table opens) (shared fs table opens) request request Argument.SaveFh (Refused 32 reason)
  unfolding run
  save_err reason tests = tree_runs request.context Argument.SaveFh (Refused 32 reason) (λ world rest. refl)
      (λ world rest on. let state = state_of world (with_rest request rest) in save_does state (Some reason) (tests state (here world fs table opens request rest on)))

  restore_does : (state : State) (saved : Bool) → has_saved state.context ≡ saved
      → does fs.volume.limits state now Argument.RestoreFh
      ≡ unless_refused state Argument.RestoreFh (refused_or (not saved) status.NoFileHandle None) (answered (record state { context = restored state.context }) Answer.RestoreFh)
  unfolding does refusals effect
  restore_does state saved is =
      ap (λ (one : Bool). unless_refused state Argument.RestoreFh (refused_or (not one) status.NoFileHandle None)
      (answered (record state { context = restored state.context }) Answer.RestoreFh)) is

  pub restore_ok : has_saved request.context ≡ true
      → RunsTo now (shared fs table opens) (shared fs table opens) request (record request { context = restored request.context }) Argument.RestoreFh (Done Answer.RestoreFh)
  unfolding run
  restore_ok has = tree_runs (restored request.context) Argument.RestoreFh (Done Answer.RestoreFh) (λ world rest. refl)
      (λ world rest on. restore_does (state_of world (with_rest request rest)) true has)

  pub restore_err : has_saved request.context ≡ false
      → RunsTo now (shared fs table opens) (shared fs table opens) request request Argument.RestoreFh (Refused 31 status.NoFileHandle)
  unfolding run
  restore_err none = tree_runs request.context Argument.RestoreFh (Refused 31 status.NoFileHandle) (λ world rest. refl)
      (λ world rest on. restore_does (state_of world (with_rest request rest)) false none)

  -- CREATE of another type

  other_does : (state : State) (type_number : ℕ) (reason : Status)
      → refused_or (not (has_current state.context)) status.NoFileHandle (refused_or (not (is_key (current state) state.tree)) status.Stale (Some status.BadType)) ≡ Some reason
      → does fs.volume.limits state now (Argument.Create (OtherType type_number)) ≡ refused state (Argument.Create (OtherType type_number)) reason
  unfolding does refusals
  other_does state type_number reason is =
      ap (λ (first : Option Status). unless_refused state (Argument.Create (OtherType type_number)) first (effect fs.volume.limits state now (Argument.Create (OtherType type_number)))) is

  other_runs : (type_number : ℕ) (reason : Status)
      → ((state : State) → IsHere fs request state → does fs.volume.limits state now (Argument.Create (OtherType type_number)) ≡ refused state (Argument.Create (OtherType type_number)) reason)
      → RunsTo now (shared fs table opens) (shared fs table opens) request request (Argument.Create (OtherType type_number)) (Refused 6 reason)
  unfolding run
  other_runs type_number reason does_so = tree_runs request.context (Argument.Create (OtherType type_number)) (Refused 6 reason) (λ world rest. refl)
      (λ world rest on. does_so (state_of world (with_rest request rest)) (here world fs table opens request rest on))

  behind_none : (a b : Bool) → refused_or a status.NoFileHandle (refused_or b status.Stale None) ≡ None
      → refused_or a status.NoFileHandle (refused_or b status.Stale (Some status.BadType)) ≡ Some status.BadType
  behind_none true b is = absurd (cc)
  behind_none false true is = absurd (cc)
  behind_none false false is = refl

  behind_some : (a b : Bool) (reason : Status) → refused_or a status.NoFileHandle (refused_or b status.Stale None) ≡ Some reason
      → refused_or a status.NoFileHandle (refused_or b status.Stale (Some status.BadType)) ≡ Some reason
  behind_some true b reason is = is
  behind_some false true reason is = is
  behind_some false false reason is = absurd (cc)

  pub other_ok : (type_number : ℕ) → ((state : State) → IsHere fs request state → current_refusal state ≡ None)
      → RunsTo now (shared fs table opens) (shared fs table opens) request request (Argument.Create (OtherType type_number)) (Refused 6 status.BadType)
  other_ok type_number tests = other_runs type_number status.BadType (λ state there.
      other_does state type_number status.BadType
      (behind_none (not (has_current state.context)) (not (is_key (current state) state.tree)) (tests state there)))

  pub other_err : (type_number : ℕ) (reason : Status) → ((state : State) → IsHere fs request state → current_refusal state ≡ Some reason)
      → RunsTo now (shared fs table opens) (shared fs table opens) request request (Argument.Create (OtherType type_number)) (Refused 6 reason)
  other_err type_number reason tests = other_runs type_number reason (λ state there.
      other_does state type_number reason
      (behind_some (not (has_current state.context)) (not (is_key (current state) state.tree)) reason (tests state there)))
