-- What an OPEN comes to that is served.
use Rattle.std.proofs.Common.{◌≡◌, ◌<◌, ◌≤◌, ◌+◌, ◌^◌, inl, inr, ℕ, Bool, true, false, if◌then◌else◌, List, [], ◌∷◌, ◌++◌, length, nat_le, Option, Some, None, Result, Ok, Err, refl, sym, ap, ap₂, ◌∙◌, arith, length-append}
use Rattle.std.proofs.lemmas.Bool.{and_parts, eqb-true}
use Rattle.std.specs.Int.{w32, w64, to_be_bytes}
use Rattle.xdr.specs.Forms.{padded, padding, trimmed_bitmap}
use Rattle.xdr.specs.Grammar.{number}
use Rattle.xdr.proofs.Sizes.{padded_length}
use Rattle.xdr.proofs.Numbers.{length-number_32, length-number_64}
use Rattle.layout.specs.Stands.{Kept}
use Rattle.fs.specs.Changes.{FsChanges}
use Rattle.fs.specs.FileSystem.{FileSystem}
use Rattle.fs.specs.Opening.{IsFileToOpen, IsOpening, IsOpeningCurrent, IsShortNumber, OpensTree, after_open, open_effect, set_by, type_of}
use Rattle.fs.specs.Operations.{IsNotDone, IsRefused, does_on}
use Rattle.fs.specs.Renaming.{info_of}
use Rattle.fs.specs.declared.fault.FsFault.{FsFault}
use Rattle.fs.specs.declared.fault.FsFault.TheVariants as fault
use Rattle.fs.specs.declared.opening.OpenEffect.TheVariants as effects
use Rattle.fs.specs.declared.opening.Opened.{Opened}
use Rattle.fs.specs.declared.opening.Opening.{Opening as Asked}
use Rattle.fs.specs.declared.opening.Share.{Share}
use Rattle.model.specs.Operations.Answer.{Done}
use Rattle.model.specs.Attributes.Attribute.{settable_at_open, trimmed}
use Rattle.model.specs.Operations.Context.{Context, has_current, current_number}
use Rattle.model_tree.specs.Trees.Tree.{is_named, Tree}
use Rattle.model_tree.specs.Refusals.Name.{name_refusals}
use Rattle.model.specs.Operations.Open.{asked_open, at_opened, creates, cuts, file_opened, given_by, known_refusals, late_at_open, middle_at_open, new_refusals, no_change_info, open_refusals, opening_refusals, place_refusals, set_at_open, share_refusals, size_alone}
use Rattle.model.specs.Sessions.Opens.{Open, Opens}
use Rattle.model.specs.Operations.Operation.{Argument, ChangeInfo, OpenArguments, OpenType, NoCreate, Unchecked, Guarded, Opening, Opens as Opens_as, Exclusive, ByName, ByHandle, OtherClaim}
use Rattle.model.specs.Sessions.Session.{Table}
use Rattle.model.specs.Sessions.StateIds.{closed_state, is_like, is_table_full, new_open, open_like, opened, opened_by, open_stateid as stateid_of, zeros}
use Rattle.model.specs.Operations.Step.{State, Stepped, alters, does, effect, refused, refusals, without_rights, answered, current, current_refusals, need_first, need_then}
use Rattle.model.specs.Server.World as turns
use Rattle.model.specs.Server.World.{World, InProgress, HasRun, run, state_of, reply_with, outcome_text}
use Rattle.model_tree.specs.declared.limits.Limits.{Limits}
use Rattle.model_tree.specs.declared.node.NodeKind.TheVariants as kind
use Rattle.model_tree.specs.declared.status.Status.{Status}
use Rattle.model_tree.specs.declared.status.Status.TheVariants as status
use Rattle.model.proofs.Sessions.TableCalls.{found_passes}
use Rattle.opens.specs.Views.{opened_stateid}
use Rattle.wire.specs.Short.{IsRefusal}
use Rattle.compound.specs.Beside.{has_opened_room, opened_answer, ComesToOpen}
use Rattle.compound.specs.Operates.{run_in_room}
use Rattle.compound.specs.Runs.{with_rest}
use Rattle.compound.specs.States.{SharedState, shared}
use Rattle.compound.specs.declared.fault.Fault.{Fault}
use Rattle.compound.specs.declared.fault.Fault.TheVariants as faults
use Rattle.compound.proofs.QuietLaws.{answers_quietly, leaves_all}
use Rattle.compound.specs.Trees.{IsHere, IsStatus, IsUp}
use Rattle.compound.specs.Volumes.{OperationGives, ending, lasts, entry_by}
use Rattle.compound.proofs.Changing.{HasThisRoom, done_runs, is_up, same_room, tree_given}
use Rattle.compound.proofs.OpenLaws.{on_tree}
use Rattle.compound.proofs.SettingLaws.{given_bad}
use Rattle.compound.proofs.Trees.{all_bad, append_bad, does_bad, here, is_on}
use Rattle.volume.specs.VolumeState.{with_tree}
use Rattle.compound.proofs.VolumeLaws.{operation_stays}

-- Each refusal has a status that is not OK

early_bad : (limits : Limits) (state : State) (arguments : OpenArguments) (opening : Opening)
    → all_bad (opening_refusals opening ++ (share_refusals arguments ++ place_refusals limits state opening)) ≡ true
unfolding name_refusals
early_bad limits state arguments (Exclusive mode) = refl
early_bad limits state arguments (Opens_as how (OtherClaim claim)) = refl
early_bad limits state arguments (Opens_as how (ByName name)) = refl
early_bad limits state arguments (Opens_as how ByHandle) = refl

known_bad : (limits : Limits) (state : State) (number : ℕ) (of : OpenType) → all_bad (known_refusals limits state number of) ≡ true
known_bad limits state at NoCreate = refl
known_bad limits state at (Unchecked given) = given_bad limits kind.File settable_at_open given
known_bad limits state at (Guarded given) = refl

new_bad : (limits : Limits) (of : OpenType) → all_bad (new_refusals limits of) ≡ true
new_bad limits NoCreate = refl
new_bad limits (Unchecked given) = given_bad limits kind.File settable_at_open given
new_bad limits (Guarded given) = given_bad limits kind.File settable_at_open given

named_bad : (is_there : Bool) (limits : Limits) (state : State) (number : ℕ) (of : OpenType)
    → all_bad (if is_there then known_refusals limits state number of else new_refusals limits of) ≡ true
named_bad true limits state number of = known_bad limits state number of
named_bad false limits state number of = new_bad limits of

middle_bad : (limits : Limits) (state : State) (opening : Opening) → all_bad (middle_at_open limits state opening) ≡ true
middle_bad limits state (Exclusive mode) = refl
middle_bad limits state (Opens_as how (OtherClaim claim)) = refl
middle_bad limits state (Opens_as how (ByName name)) = named_bad _ limits state _ how
middle_bad limits state (Opens_as how ByHandle) = refl

pub open_bad : (limits : Limits) (state : State) (now : ℕ) (arguments : OpenArguments) (reason : Status)
    → does limits state now (Argument.Open arguments) ≡ refused state (Argument.Open arguments) reason → IsRefusal reason
unfolding refusals effect
open_bad limits state now arguments reason is =
    let asked : Argument = Argument.Open arguments in
    does_bad limits state now asked reason _
    (append_bad (current_refusals state ++ open_refusals limits state arguments)
    (((without_rights state (need_first state.tree state.context asked), status.Access) ∷ middle_at_open limits state arguments.opening)
    ++ ((without_rights state (need_then state.tree state.context asked), status.Access) ∷ late_at_open limits state arguments))
    (append_bad (current_refusals state) (open_refusals limits state arguments) refl (early_bad limits state arguments arguments.opening))
    (append_bad ((without_rights state (need_first state.tree state.context asked), status.Access) ∷ middle_at_open limits state arguments.opening)
    ((without_rights state (need_then state.tree state.context asked), status.Access) ∷ late_at_open limits state arguments)
    (middle_bad limits state arguments.opening) refl))
    refl is

-- a call that changes nothing is refused for a status
pub open_status : (fs : FileSystem) (state : State) (now : ℕ) (arguments : OpenArguments) (why : FsFault) → fs.volume.is_down ≡ false
    → IsRefused fs state now (Argument.Open arguments) why → IsStatus why
open_status fs state now arguments (fault.Status reason) up is = tt
open_status fs state now arguments fault.NoRoom up is = absurd is
open_status fs state now arguments fault.Memory up is = absurd is
open_status fs state now arguments fault.Device up is = absurd is
open_status fs state now arguments fault.Down up is = gone fs.volume.is_down up is
  where
    gone : (is_down : Bool) → is_down ≡ false → is_down ≡ true → IsStatus fault.Down
    gone is_down is other = cc

-- Its length depends only on what was set

other_length : (of serial : ℕ) → length (padded (to_be_bytes w32 of ++ to_be_bytes w64 serial)) ≡ 12
unfolding number
other_length of serial =
    padded_length (to_be_bytes w32 of ++ to_be_bytes w64 serial)
    ∙ ap (λ (n : ℕ). n + padding n)
    (length-append (to_be_bytes w32 of) (to_be_bytes w64 serial) ∙ ap₂ (λ (m n : ℕ). m + n) (length-number_32 of) (length-number_64 serial))

open_length : (of serial seqid : ℕ) (change : ChangeInfo) (was_set : List ℕ)
    → length (outcome_text (Done (opened_answer (stateid_of of serial seqid) change was_set)))
    ≡ 52 + length (trimmed_bitmap.encoding was_set)
unfolding outcome_text
open_length of serial seqid change was_set = simp (length-append, length-number_32, length-number_64) (omega (arith, other_length of serial))

closed_length : (was_set : List ℕ) → length (outcome_text (Done (opened_answer closed_state no_change_info was_set)))
    ≡ 52 + length (trimmed_bitmap.encoding was_set)
unfolding outcome_text
closed_length was_set = simp (length-append, length-number_32, length-number_64) (omega (arith, padded_length zeros))

pub opened_room : (request : InProgress) (of serial seqid : ℕ) (change : ChangeInfo) (was_set : List ℕ) (room : Bool) → room ≡ has_opened_room request was_set
    → room ≡ nat_le (length (reply_with request (Done (opened_answer (stateid_of of serial seqid) change was_set)))) 16368
opened_room request of serial seqid change was_set room is =
    same_room request (opened_answer closed_state no_change_info was_set) (opened_answer (stateid_of of serial seqid) change was_set) room
    (closed_length was_set ∙ sym (open_length of serial seqid change was_set)) is

-- What is opened has the number that is asked for

open_number : (opens : Opens) (asked : Open) → (opened opens asked).state.number ≡ asked.number
unfolding opened
open_number opens asked = by_like (open_like opens asked) refl
  where
    by_like : (like : Option (ℕ × Open)) → open_like opens asked ≡ like → (opened_by opens asked like).state.number ≡ asked.number
    by_like None is = refl
    by_like (Some entry) is =
        eqb-true entry.1.number asked.number
        (and_parts _ _ (and_parts _ _ (found_passes (is_like asked) opens.known entry is)).1).1

-- what is set depends on whether the file is there, and whether it is truncated
set_is : (is_there is_cut : Bool) (of : OpenType)
    → (if is_there then (if is_cut then size_alone else []) else trimmed (given_by of).bitmap)
    ≡ set_by (if is_there then (if is_cut then effects.Cut else effects.Nothing) else effects.Made) of
set_is true true of = refl
set_is true false of = refl
set_is false is_cut of = refl

-- What is no change does not have to last
quiet_ran : (world : World) (request : InProgress) (arguments : OpenArguments) (ran : HasRun) → alters (state_of world request) (Argument.Open arguments) ≡ false
    → lasts (entry_by world request (Argument.Open arguments) ran) ≡ false
quiet_ran world request arguments (turns.Gives outcome after left) none = rw none refl
quiet_ran world request arguments (turns.Replays reply session slot) none = refl

-- and leaves the file system as it is
pub open_still : {T : Type 0} (keeps_word : Type 0) (state : SharedState) (failed : ℕ) (request : InProgress) (now : ℕ) (arguments : OpenArguments) (result : Result T Fault)
    → state.files.volume.is_down ≡ false → ((one : State) → alters one (Argument.Open arguments) ≡ false) → ((reason : Fault) → result ≡ Err reason → reason ≡ faults.Memory)
    → FsChanges keeps_word (OperationGives state request now (Argument.Open arguments)) state.files state.files failed failed (ending result)
open_still keeps_word state failed request now arguments (Ok done) up still memory =
    answers_quietly keeps_word (OperationGives state request now (Argument.Open arguments)) state.files state.files failed failed refl refl up
    (λ keeps. operation_stays state request now (Argument.Open arguments))
    (λ after lasting gives. gives.lasting_is ∙ quiet_ran gives.world (with_rest request gives.rest) arguments
    (run_in_room gives.world (with_rest request gives.rest) now (Argument.Open arguments)) (still (state_of gives.world (with_rest request gives.rest))))
open_still keeps_word state failed request now arguments (Err faults.Memory) up still memory =
    leaves_all keeps_word (OperationGives state request now (Argument.Open arguments)) state.files state.files failed failed refl refl
open_still keeps_word state failed request now arguments (Err faults.Device) up still memory =
    let is : faults.Device ≡ faults.Memory = memory faults.Device refl in
    let never : ⊥ = cc in absurd never

-- an open by its directory's change and what was set, of a request among some opens
abbrev opened_at : FileSystem → OpenArguments → ChangeInfo → (was_set : List ℕ) → Opens → Context → (number current : ℕ) → Stepped
opened_at new arguments change was_set opens context number place =
    let now = opened opens (new_open context.client arguments.owner number arguments.access) in
    answered
    (record {
      tree = new.volume.tree;
      changes = new.changes;
      opens = now.opens;
      context = at_opened context place (opened_stateid context.run now);
    })
    (opened_answer (opened_stateid context.run now) change was_set)

module _ (now : ℕ) (fs : FileSystem) (request : InProgress) (arguments : OpenArguments) where
  -- it comes to what the file system opened
  pub opens_to : (new : FileSystem) (table : Table) (opens : Opens) (of : OpenType) (number : ℕ) (made : Opened) → number ≡ made.number
      → ((state : State) → IsHere fs request state → state.opens ≡ opens → does_on fs state now (Argument.Open arguments) ≡ after_open new.volume.tree new.changes state arguments of made)
      → ComesToOpen now (shared fs table opens) (shared new table (opened opens (new_open request.context.client arguments.owner number arguments.access)).opens)
      request (new_open request.context.client arguments.owner number arguments.access) (info_of made.directory) (set_by made.effect of) (Argument.Open arguments)
  opens_to new table opens of number made same step =
      let asked = new_open request.context.client arguments.owner number arguments.access in
      let now_open = opened opens asked in
      let change = info_of made.directory in
      let was_set = set_by made.effect of in
      done_runs now fs request (Argument.Open arguments) (on_tree now request arguments) new table opens now_open.opens
      (at_opened request.context number (opened_stateid request.context.run now_open))
      (opened_answer (opened_stateid request.context.run now_open) change was_set)
      (λ state there known.
      step state there known
      ∙ (ap (λ (held : Opens). opened_at new arguments change was_set held state.context made.number
      (opened held (new_open state.context.client arguments.owner made.number arguments.access)).state.number) known
      ∙ (ap (λ (context : Context). opened_at new arguments change was_set opens context made.number
      (opened opens (new_open context.client arguments.owner made.number arguments.access)).state.number) there.context_is
      ∙ (ap (λ (n : ℕ). opened_at new arguments change was_set opens request.context n
      (opened opens (new_open request.context.client arguments.owner n arguments.access)).state.number) (sym same)
      ∙ ap (λ (n : ℕ). opened_at new arguments change was_set opens request.context number n) (open_number opens asked)))))

  pub open_up : (opens : Opens) (why : FsFault) → fs.volume.is_down ≡ false
      → ((state : State) → IsHere fs request state → state.opens ≡ opens → IsNotDone fs state now (Argument.Open arguments) why) → IsUp why
  open_up opens why up step =
      let state : State = record { tree = fs.volume.tree; changes = fs.changes; opens = opens; context = request.context } in
      is_up now fs state (Argument.Open arguments) why up (open_bad fs.volume.limits state now arguments)
      (step state (record { tree_is = refl; changes_is = refl; context_is = refl }) refl)

  pub sized : (of : OpenType) (name : List ℕ) (directory : ℕ) → arguments.opening ≡ Opens_as of (ByName name) → current_number request.context ≡ directory
      → (room : Bool) → room ≡ has_opened_room request (set_by (open_effect fs.volume.tree directory name of) of)
      → (state : State) → IsHere fs request state → HasThisRoom request room (effect fs.volume.limits state now (Argument.Open arguments))
  unfolding effect
  sized of name directory opening is room fits state there = (
    _,
    refl,
    opened_room request _ _ _ _ (set_at_open state arguments.opening) room
        (fits ∙ ap (has_opened_room request)
        (ap (λ (n : ℕ). set_by (open_effect fs.volume.tree n name of) of) (sym is)
        ∙ (ap (λ (context : Context). set_by (open_effect fs.volume.tree (current_number context) name of) of) (sym there.context_is)
        ∙ (ap (λ (tree : Tree). set_by (open_effect tree (current state) name of) of) (sym there.tree_is)
        ∙ (sym (set_is (is_named state.tree (current state) name) (cuts of) of)
        ∙ ap (set_at_open state) (sym opening)))))),
  )

  pub open_makes : (table : Table) (opens : Opens) (asked : Asked) (is_full : Bool) → request.context.run ≡ fs.volume.run
      → has_current request.context ≡ true → current_number request.context ≡ asked.directory
      → ((state : State) → IsHere fs request state → state.opens ≡ opens → IsOpening fs state asked is_full arguments)
      → (room : Bool) → ((state : State) → IsHere fs request state → HasThisRoom request room (effect fs.volume.limits state now (Argument.Open arguments))) → room ≡ true
      → (kept : Kept) (lasting : Bool) → OperationGives (shared fs table opens) request now (Argument.Open arguments) kept lasting
      → OpensTree fs request.context.cred now asked is_full kept lasting
  open_makes table opens asked is_full in_run has is opening room fits some kept lasting gives =
      let state = state_of gives.world (with_rest request gives.rest) in
      let there = here gives.world fs table opens request gives.rest gives.has in
      record {
        state = state;
        arguments = arguments;
        on = is_on fs request asked.directory state in_run has is there;
        opening = opening state there gives.has.opens;
        kept = gives.kept ∙ ap (with_tree fs.volume) (tree_given now fs request (Argument.Open arguments) (on_tree now request arguments) room fits table opens gives.world gives.rest some gives.has);
        quiet = λ none. gives.lasting_is ∙ quiet_ran gives.world (with_rest request gives.rest) arguments (run_in_room gives.world (with_rest request gives.rest) now (Argument.Open arguments)) none;
      }

  -- what is asked of the file system is what the arguments ask
  module _ (opens : Opens) (in_run : request.context.run ≡ fs.volume.run) (has : has_current request.context ≡ true)
      (number most : ℕ) (is_full : Bool) (one : Open) (all : most ≡ fs.volume.limits.opens)
      (is : one ≡ new_open request.context.client arguments.owner number arguments.access) (full : is_full ≡ is_table_full most opens one) where
    full_in : (state : State) → IsHere fs request state → state.opens ≡ opens → file_opened state arguments.opening ≡ number
        → is_table_full fs.volume.limits.opens state.opens (asked_open state arguments) ≡ is_full
    full_in state there known leads =
        ap (λ (held : Opens). is_table_full fs.volume.limits.opens held (asked_open state arguments)) known
        ∙ (ap (λ (context : Context). is_table_full fs.volume.limits.opens opens (new_open context.client arguments.owner (file_opened state arguments.opening) arguments.access)) there.context_is
        ∙ (ap (λ (n : ℕ). is_table_full fs.volume.limits.opens opens (new_open request.context.client arguments.owner n arguments.access)) leads
        ∙ (ap (is_table_full fs.volume.limits.opens opens) (sym is)
        ∙ (ap (λ (n : ℕ). is_table_full n opens one) (sym all) ∙ sym full))))

    is_opening : (asked : Asked) → current_number request.context ≡ asked.directory
        → arguments.access ≡ asked.share.access → arguments.deny ≡ asked.share.deny → arguments.opening ≡ Opens_as (type_of asked.how) (ByName asked.name.now)
        → IsFileToOpen fs asked number
        → (state : State) → IsHere fs request state → state.opens ≡ opens → IsOpening fs state asked is_full arguments
    is_opening asked at access deny opening leads state there known = record {
      access_is = access;
      deny_is = deny;
      opening_is = opening;
      full_is = full_in state there known (ap (file_opened state) opening ∙ leads state request.context.cred (is_on fs request asked.directory state in_run has at there));
    }

    pub is_current : (share : Share) (of : OpenType) (is_create : Bool) → current_number request.context ≡ number
        → arguments.access ≡ share.access → arguments.deny ≡ share.deny → arguments.opening ≡ Opens_as of ByHandle → is_create ≡ creates of
        → (state : State) → IsHere fs request state → state.opens ≡ opens → IsOpeningCurrent fs state share is_create is_full arguments
    is_current share of is_create at access deny opening create state there known = record {
      access_is = access;
      deny_is = deny;
      how = of;
      creates_is = sym create;
      opening_is = opening;
      full_is = full_in state there known (ap (file_opened state) opening ∙ (ap current_number there.context_is ∙ at));
    }

  -- the table is as full for the open of a short number as for that of the number
  full_at : (opens left : Opens) (number short most : ℕ) (is_full : Bool) (one : Open) → one ≡ new_open request.context.client arguments.owner short arguments.access → left ≡ opens
      → IsShortNumber number short → is_full ≡ is_table_full most left one
      → (one.number ≡ 0 → (other : Open) → 2 ^ 64 ≤ other.number → is_full ≡ is_table_full most left other)
      → is_full ≡ is_table_full most opens (new_open request.context.client arguments.owner number arguments.access)
  full_at opens left number short most is_full one is same (inl known) full high =
      full ∙ (ap (λ (held : Opens). is_table_full most held one) same ∙ (ap (is_table_full most opens) is
      ∙ ap (λ (n : ℕ). is_table_full most opens (new_open request.context.client arguments.owner n arguments.access)) known.0))
  full_at opens left number short most is_full one is same (inr past) full high =
      let asked = new_open request.context.client arguments.owner number arguments.access in
      high (ap (λ (it : Open). it.number) is ∙ past.0) asked past.1 ∙ ap (λ (held : Opens). is_table_full most held asked) same

  -- so what is asked of the file system is what the arguments ask
  pub named_opening : (opens left : Opens) → request.context.run ≡ fs.volume.run → has_current request.context ≡ true
      → (number short most : ℕ) (is_full : Bool) (one : Open) → most ≡ fs.volume.limits.opens → one ≡ new_open request.context.client arguments.owner short arguments.access → left ≡ opens
      → IsShortNumber number short → is_full ≡ is_table_full most left one
      → (one.number ≡ 0 → (other : Open) → 2 ^ 64 ≤ other.number → is_full ≡ is_table_full most left other)
      → (asked : Asked) → current_number request.context ≡ asked.directory
      → arguments.access ≡ asked.share.access → arguments.deny ≡ asked.share.deny → arguments.opening ≡ Opens_as (type_of asked.how) (ByName asked.name.now)
      → IsFileToOpen fs asked number
      → (state : State) → IsHere fs request state → state.opens ≡ opens → IsOpening fs state asked is_full arguments
  named_opening opens left in_run has number short most is_full one all is same at_most full high =
      is_opening opens in_run has number most is_full (new_open request.context.client arguments.owner number arguments.access) all refl
      (full_at opens left number short most is_full one is same at_most full high)

-- a file that is open has a number that is not short for another
pub opened_short : (number short made : ℕ) → IsShortNumber number short → number ≡ made → made < 2 ^ 64 → (short ≡ made) × (0 < short)
opened_short number short made (inl known) is fits = (known.0 ∙ is, known.1)
opened_short number short made (inr past) is fits = absurd (omega (arith, past.1, is, fits))
