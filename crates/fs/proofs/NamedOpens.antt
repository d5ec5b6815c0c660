-- OPEN by a name, in each state of a COMPOUND: what refuses it, and what it does if the file is
-- there, is truncated or is made.
use Rattle.std.proofs.Common.{◌≡◌, ◌+◌, ◌&&◌, ◌||◌, ℕ, Bool, true, false, List, Option, Some, None, not, refl, sym, ap, ap₂, ◌∙◌, subst}
use Rattle.model_tree.specs.declared.acl.Cred.{Cred}
use Rattle.model_tree.specs.declared.limits.Limits.{Limits}
use Rattle.model_tree.specs.declared.status.Status.{Status}
use Rattle.model_tree.specs.declared.status.Status.TheVariants as status
use Rattle.model_tree.specs.Trees.Charge.{fits}
use Rattle.model.specs.Operations.Directory.{change_of}
use Rattle.model_tree.specs.Trees.Tree.{is_named, number_named, Tree, Node}
use Rattle.model_tree.specs.Trees.Changes.{acl_of}
use Rattle.model_tree.specs.Trees.Keyed.{at}
use Rattle.model.specs.Operations.Open.{asked_open, cuts, given_by, late_at_open, new_file, open_file}
use Rattle.model.specs.Operations.Operation.{Argument, OpenArguments, OpenType, Opening, Opens as Opening_of, ByName}
use Rattle.model_tree.specs.Refusals.Refusal.{first_refusal, refused_or}
use Rattle.model_tree.specs.Trees.Stamp.{next_stamp, is_stamp_left}
use Rattle.model.specs.Sessions.StateIds.{is_table_full}
use Rattle.model.specs.Operations.Step.{State, Stepped, alters, change_refusals, current, does, is_name_there, refused, unless_refused}
use Rattle.model.proofs.Operations.RefusalLaws.{or_else}
use Rattle.fs.specs.declared.opening.OpenEffect.{OpenEffect}
use Rattle.fs.specs.declared.opening.OpenEffect.TheVariants as effect
use Rattle.fs.specs.declared.opening.Opened.{Opened}
use Rattle.fs.specs.declared.opening.Opening as asking
use Rattle.fs.specs.FileSystem.{FileSystem}
use Rattle.fs.specs.Making.{room_tests, tree_with}
use Rattle.fs.specs.Opening.{IsOpening, NameLeadsTo, after_open, file_tests, place_tests, tree_cut, type_of}
use Rattle.fs.specs.Operations.{IsOn, does_on}
use Rattle.fs.proofs.OpenSteps as steps

module _ (fs : FileSystem) (cred : Cred) (now : ℕ) (asked : asking.Opening) (is_full : Bool) (state : State) (arguments : OpenArguments) (on : IsOn fs cred asked.directory state)
    (is : IsOpening fs state asked is_full arguments) where
  abbrev limits : Limits
  limits = fs.volume.limits

  abbrev name : List ℕ
  name = asked.name.now

  abbrev of : OpenType
  of = type_of asked.how

  abbrev by_name : OpenArguments
  by_name = record arguments { opening = Opening_of of (ByName name) }

  same : by_name ≡ arguments
  same = ap (λ (o : Opening). record arguments { opening = o }) (sym is.opening_is)

  abbrev place : Option Status
  place = first_refusal (place_tests limits state by_name name)

  abbrev found : (access : ℕ) → Option Status
  found access = first_refusal (file_tests limits state access of name)

  abbrev late : Option Status
  late = first_refusal (late_at_open limits state by_name)

  abbrev changing : Option Status
  changing = first_refusal (change_refusals limits state (Argument.Open by_name) (open_file state now by_name).state.tree)

  abbrev Comes : Option Status → Type 0
  Comes o = does_on fs state now (Argument.Open arguments) ≡ unless_refused state (Argument.Open arguments) o (open_file state now arguments)

  by : (o : Option Status) → or_else (or_else place (or_else (found by_name.access) late)) changing ≡ o → Comes o
  by o told = subst (λ (a : OpenArguments). does limits state now (Argument.Open a) ≡ unless_refused state (Argument.Open a) o (open_file state now a)) same
      (steps.named_by limits state now arguments on.is_state.has_current of name o told)

  full_is : is_table_full limits.opens state.opens (asked_open state by_name) ≡ is_full
  full_is = ap (λ (a : OpenArguments). is_table_full limits.opens state.opens (asked_open state a)) same ∙ is.full_is

  -- Refused

  pub refused_place : (reason : Status) → first_refusal (place_tests limits state arguments name) ≡ Some reason
      → does_on fs state now (Argument.Open arguments) ≡ refused state (Argument.Open arguments) reason
  refused_place reason bad = by (Some reason) (ap (λ (p : Option Status). or_else (or_else p (or_else (found by_name.access) late)) changing) bad)

  module _ (placed : first_refusal (place_tests limits state arguments name) ≡ None) where
    by_file : (o f : Option Status) → found asked.share.access ≡ f → or_else (or_else f late) changing ≡ o → Comes o
    by_file o f told rest = by o
        (ap₂ (λ (p q : Option Status). or_else (or_else p (or_else q late)) changing) placed (ap found is.access_is ∙ told) ∙ rest)

    pub refused_file : (reason : Status) → found asked.share.access ≡ Some reason
        → does_on fs state now (Argument.Open arguments) ≡ refused state (Argument.Open arguments) reason
    refused_file reason bad = by_file (Some reason) (Some reason) bad refl

    module _ (fine : found asked.share.access ≡ None) where
      by_table : (o : Option Status) (full : Bool) → is_full ≡ full → or_else (refused_or full status.Delay None) changing ≡ o → Comes o
      by_table o full told rest = by_file o None fine (ap (λ (b : Bool). or_else (refused_or b status.Delay None) changing) (full_is ∙ told) ∙ rest)

      pub table_full : is_full ≡ true → does_on fs state now (Argument.Open arguments) ≡ refused state (Argument.Open arguments) status.Delay
      table_full told = by_table (Some status.Delay) true told refl

      module _ (free : is_full ≡ false) where
        by_change : (o : Option Status) → changing ≡ o → Comes o
        by_change o told = by_table o false free told

        -- What it leaves

        abbrev Leaves : (tree : Tree) (changes : ℕ) → Opened → OpenArguments → Type 0
        Leaves tree changes made those = open_file state now those ≡ after_open tree changes state those of made

        leaves : (tree : Tree) (changes : ℕ) (made : Opened) → Leaves tree changes made by_name → changing ≡ None
            → does_on fs state now (Argument.Open arguments) ≡ after_open tree changes state arguments of made
        leaves tree changes made is_left none = by_change None none ∙ subst (Leaves tree changes made) same is_left

        -- a change is tested by its tree
        changing_is : (after : Tree) (changes : ℕ) (made : Opened) → alters state (Argument.Open by_name) ≡ true → Leaves after changes made by_name
            → changing ≡ first_refusal (room_tests fs after)
        changing_is after changes made does_alter is_left =
            let tests : (b : Bool) (t : Tree) (count : ℕ) → Option Status = λ b t count.
            refused_or (b && not (fits limits t)) status.NoSpc (refused_or (b && not (is_stamp_left count)) status.ServerFault None) in
            ap (λ (b : Bool). tests b (open_file state now by_name).state.tree state.changes) does_alter
            ∙ ap₂ (tests true) (ap (λ (s : Stepped). s.state.tree) is_left) on.changes

        -- The file that the name leads to

        module _ (target : ℕ) (leads : NameLeadsTo fs.volume.tree asked.directory name target) (before : ℕ) (before_is : change_of (at asked.directory fs.volume.tree) ≡ before) where
          there_is : is_name_there state name ≡ true
          there_is = ap₂ (λ (t : Tree) (n : ℕ). is_named t n name) on.is_state.tree_is on.is_state.current_is ∙ leads.is_there

          number_is : number_named state.tree (current state) name ≡ target
          number_is = ap₂ (λ (t : Tree) (n : ℕ). number_named t n name) on.is_state.tree_is on.is_state.current_is ∙ leads.number_is

          before_there : change_of (at (current state) state.tree) ≡ before
          before_there = ap₂ (λ (t : Tree) (n : ℕ). change_of (at n t)) on.is_state.tree_is on.is_state.current_is ∙ before_is

          abbrev pub opened : OpenEffect → Opened
          opened made = record { number = target; directory = record { before = before; after = before }; effect = made }

          alters_is : (cut : Bool) → cuts of ≡ cut → alters state (Argument.Open by_name) ≡ cut
          alters_is cut told = ap₂ (λ (b c : Bool). not b || (b && c)) there_is told

          module _ (uncut : cuts of ≡ false) where
            pub quiet : alters state (Argument.Open arguments) ≡ false
            quiet = subst (λ (a : OpenArguments). alters state (Argument.Open a) ≡ false) same (alters_is false uncut)

            nothing_left : Leaves fs.volume.tree fs.changes (opened effect.Nothing) by_name
            nothing_left = rw (there_is, uncut, number_is, before_there, on.is_state.tree_is, on.changes) refl

            nothing_tested : changing ≡ None
            nothing_tested = ap (λ (b : Bool). refused_or (b && not (fits limits (open_file state now by_name).state.tree)) status.NoSpc
                (refused_or (b && not (is_stamp_left state.changes)) status.ServerFault None)) (alters_is false uncut)

            pub stays_open : does_on fs state now (Argument.Open arguments) ≡ after_open fs.volume.tree fs.changes state arguments of (opened effect.Nothing)
            stays_open = leaves fs.volume.tree fs.changes (opened effect.Nothing) nothing_left nothing_tested

          module _ (cut : cuts of ≡ true) where
            cut_left : Leaves (tree_cut fs target now) (fs.changes + 1) (opened effect.Cut) by_name
            cut_left = rw (there_is, cut, number_is, before_there, on.is_state.tree_is, on.run, on.changes) refl

            room_is : changing ≡ first_refusal (room_tests fs (tree_cut fs target now))
            room_is = changing_is (tree_cut fs target now) (fs.changes + 1) (opened effect.Cut) (alters_is true cut) cut_left

            pub no_cut : (reason : Status) → first_refusal (room_tests fs (tree_cut fs target now)) ≡ Some reason
                → does_on fs state now (Argument.Open arguments) ≡ refused state (Argument.Open arguments) reason
            no_cut reason told = by_change (Some reason) (room_is ∙ told)

            pub is_cut : first_refusal (room_tests fs (tree_cut fs target now)) ≡ None
                → does_on fs state now (Argument.Open arguments) ≡ after_open (tree_cut fs target now) (fs.changes + 1) state arguments of (opened effect.Cut)
            is_cut room = leaves (tree_cut fs target now) (fs.changes + 1) (opened effect.Cut) cut_left (room_is ∙ room)

        -- A file that is made

        module _ (lacks : is_named fs.volume.tree asked.directory name ≡ false) where
          abbrev own : ℕ
          own = next_stamp fs.volume.run fs.changes

          abbrev made_of : (stamp before : ℕ) → Opened
          made_of stamp before = record { number = stamp; directory = record { before = before; after = stamp }; effect = effect.Made }

          abbrev child : Node
          child = new_file cred (acl_of (at asked.directory fs.volume.tree)) (given_by of) own now

          not_there : is_name_there state name ≡ false
          not_there = ap₂ (λ (t : Tree) (n : ℕ). is_named t n name) on.is_state.tree_is on.is_state.current_is ∙ lacks

          alters_new : alters state (Argument.Open by_name) ≡ true
          alters_new = ap (λ (b : Bool). not b || (b && cuts of)) not_there

          child_left : Leaves (tree_with fs asked.directory name child now) (fs.changes + 1) (made_of own (change_of (at asked.directory fs.volume.tree))) by_name
          child_left = rw (not_there, on.is_state.tree_is, on.is_state.cred_is, on.is_state.current_is, on.run, on.changes) refl

          module _ (node : Node) (node_is : node ≡ child) (stamp before : ℕ) (stamp_is : stamp ≡ own) (before_is : change_of (at asked.directory fs.volume.tree) ≡ before) where
            abbrev after : Tree
            after = tree_with fs asked.directory name node now

            made_left : Leaves after (fs.changes + 1) (made_of stamp before) by_name
            made_left = child_left
                ∙ ap (λ (n : Node). after_open (tree_with fs asked.directory name n now) (fs.changes + 1) state by_name of (made_of own (change_of (at asked.directory fs.volume.tree)))) (sym node_is)
                ∙ ap₂ (λ (s b : ℕ). after_open after (fs.changes + 1) state by_name of (made_of s b)) (sym stamp_is) before_is

            room_new : changing ≡ first_refusal (room_tests fs after)
            room_new = changing_is after (fs.changes + 1) (made_of stamp before) alters_new made_left

            pub not_made : (reason : Status) → first_refusal (room_tests fs after) ≡ Some reason
                → does_on fs state now (Argument.Open arguments) ≡ refused state (Argument.Open arguments) reason
            not_made reason told = by_change (Some reason) (room_new ∙ told)

            pub is_made : first_refusal (room_tests fs after) ≡ None
                → does_on fs state now (Argument.Open arguments) ≡ after_open after (fs.changes + 1) state arguments of (made_of stamp before)
            is_made room = leaves after (fs.changes + 1) (made_of stamp before) made_left (room_new ∙ room)
