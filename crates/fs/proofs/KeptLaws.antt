-- What every change requires of its edits, stated once for all operations: the tree after it is one
-- that the run may have, so the change may be kept.
use Rattle.std.proofs.Common.{◌≡◌, ◌≤◌, ◌<◌, ◌+◌, ◌^◌, ℕ, sym, ap, ap₂, ◌∙◌, arith, subst}
use Rattle.std.proofs.Math.Logic.{∥∥₁_map, ∥∥₁_elim}
use Rattle.std.proofs.Props.{props}
use Rattle.std.specs.Prelude.{IsTrue}
use Rattle.tree_edits.specs.Edits.{AreDoable}
use Rattle.tree_edits.specs.Outlines.{without_data}
use Rattle.model_tree.specs.declared.limits.Limits.{Limits}
use Rattle.model_tree.specs.Trees.Charge.{fits}
use Rattle.volume.specs.VolumeState.{IsLimited}
use Rattle.model.specs.Operations.Operation.{Argument}
use Rattle.model_tree.specs.Trees.Stamp.{next_stamp, stamp}
use Rattle.model.specs.Operations.State.{State, Stepped, stamp_of}
use Rattle.model.specs.Operations.Step.{does}
use Rattle.model.specs.Operations.StepLaws.{IsSound, IsLawful}
use Rattle.model_tree.specs.Trees.Tree.{Tree}
use Rattle.model_tree.specs.Trees.WellFormed.{IsWellFormed, IsBefore}
use Rattle.model_tree.proofs.Rights.LimitLaws.{modes_keep_limits, inheritance_keeps_limits}
use Rattle.model.proofs.Operations.StepProofs.{every_step, before_later}
use Rattle.fs.specs.FileSystem.{FileSystem}
use Rattle.fs.specs.Planned.{IsPlanned}
use Rattle.fs.specs.Ready.{MayStand}
use Rattle.volume.specs.Edits.{edited_by}
use Rattle.volume.specs.Formed.{IsFormed}
use Rattle.fs.specs.Forms.{Change, IsAllowed, edits_by}
use Rattle.fs.proofs.FormLaws.{form_is_change}

module _ (fs : FileSystem) (formed : MayStand fs.volume fs.changes) (counted : fs.changes < 2 ^ 32) (limited : IsLimited fs.volume) where
  abbrev limits : Limits
  limits = fs.volume.limits

  -- a state with zeros for the bytes of files is sound
  sound : (state : State) → state.tree ≡ without_data fs.volume.tree → state.changes ≡ fs.changes → state.context.run ≡ fs.volume.run
      → IsWellFormed limits (without_data fs.volume.tree) → IsSound limits state
  sound state tree changes run well = record {
    well_formed = subst (IsWellFormed limits) (sym tree) well;
    before = subst (λ (t : Tree). IsBefore (stamp_of state) t) (sym tree)
        (subst (λ (n : ℕ). IsBefore n (without_data fs.volume.tree)) (ap₂ next_stamp (sym run) (sym changes)) formed.before);
    counted = subst (λ (n : ℕ). n < 2 ^ 32) (sym changes) counted;
    room_for_mode = subst (λ (l : Limits). l.aces_set + 5 ≤ l.aces) (sym limited.limits) (omega arith);
  }

  -- what a change leaves of such a state is a tree that the run may have after it, and so is each
  -- tree with these zeros for its bytes
  pub formed_by : (state : State) (now : ℕ) (operation : Argument) (stepped : Stepped) (after : Tree)
      → state.tree ≡ without_data fs.volume.tree → state.changes ≡ fs.changes → state.context.run ≡ fs.volume.run
      → does limits state now operation ≡ stepped → stepped.state.changes ≡ fs.changes + 1 → stepped.state.tree ≡ without_data after
      → IsFormed limits (next_stamp fs.volume.run (fs.changes + 1)) after
  formed_by state now operation stepped after tree changes run is more seen =
      let law : IsLawful limits state operation (does limits state now operation) =
      every_step modes_keep_limits inheritance_keeps_limits limits state now operation in
      let kept : IsWellFormed limits (without_data fs.volume.tree) → IsSound limits stepped.state = λ well.
      subst (λ (s : Stepped). IsSound limits s.state) is (law.keeps_soundness (sound state tree changes run well)) in
      let run_then : stepped.state.context.run ≡ fs.volume.run = ap (λ (s : Stepped). s.state.context.run) (sym is) ∙ law.keeps_caller.2 ∙ run in
      record {
        well_formed = ∥∥₁_map formed.well_formed (λ well. subst (IsWellFormed limits) seen (kept well).well_formed);
        before = ∥∥₁_elim formed.well_formed (Prim.hlevel props) (λ well.
            subst (λ (t : Tree). IsBefore (next_stamp fs.volume.run (fs.changes + 1)) t) seen
            (subst (λ (n : ℕ). IsBefore n stepped.state.tree) (ap₂ next_stamp run_then more) (kept well).before));
      }

  -- a change of one of the forms, whose tree has room and is one that the run may have after it
  pub planned_by : (change : Change) → IsAllowed fs.volume change → AreDoable fs.volume.tree (edits_by change)
      → IsTrue (fits limits (edited_by fs.volume (edits_by change))) → fs.changes + 1 < 2 ^ 32
      → IsFormed limits (next_stamp fs.volume.run (fs.changes + 1)) (edited_by fs.volume (edits_by change)) → IsPlanned fs (edits_by change)
  planned_by change allowed doable fit left stands =
      let after = edited_by fs.volume (edits_by change) in
      record {
        change = form_is_change fs.volume (next_stamp fs.volume.run fs.changes) formed change allowed doable (λ all. record {
          well_formed = stands.well_formed;
          before = before_later (next_stamp fs.volume.run (fs.changes + 1)) (stamp (fs.volume.run + 1) 0) (without_data after) stands.before (omega (arith, left));
        });
        fitting = fit;
        left = left;
        formed = stands;
      }
