use Rattle.std.proofs.Common.{◌∙◌, refl, subst, arith}
use Rattle.layout.specs.declared.versions.Marking.{Marking}
use Rattle.tree_transaction.specs.Transactions.{end_of}
use Rattle.tree_transaction.specs.Whole.{AreMarked}
use Rattle.tree_transaction.proofs.UpdateLaws.{between-wider}
use Rattle.tree_transaction.proofs.WholeLaws.{tree_same, marks_written, named_laid, spare_still, marked_below, marks_between}
use Rattle.tree_transaction.proofs.transaction.Transaction.finish.Goals as goal

pub returns-in_ok-put_marks-in-InSectors-2-clause-laid : goal.returns-in_ok-put_marks-in-InSectors-2-clause-laid
returns-in_ok-put_marks-in-InSectors-2-clause-laid c = λ version base size marking transaction whole marked.
    let nodes = c.args.self.now.nodes in
    let low = c.in_ok-put_marks-in-InSectors.ensures.image base in
    let high = c.in_ok-put_marks-in-InSectors-2.ensures.image base in
    record {
      laid = marks_written nodes size version _ _ _ c.args.before.now c.args.self.now.places c.args.self.now.cached_nodes.cached_nodes transaction.laid low high whole.end_is (whole.few (marking ∙ c.in-InSectors.is)) whole.forms (marking ∙ c.in-InSectors.is) whole.region
          (spare_still version size nodes c.args.self.now.updates (end_of c.args.self.now) base whole.region whole.end_is c.requires.targets whole.spare) (marked_below c.args.self.now.updates (end_of c.args.self.now) base c.args.before.now c.requires.targets (subst (λ (m : Marking). AreMarked m base c.args.before.now) c.in-InSectors.is marked));
      tree_is = tree_same nodes size version _ _ _ c.args.before.now c.args.self.now.places c.args.self.now.cached_nodes.cached_nodes transaction.laid low high;
    }

pub returns-in_ok-put_marks-in-InSectors-2-clause-targets : goal.returns-in_ok-put_marks-in-InSectors-2-clause-targets
returns-in_ok-put_marks-in-InSectors-2-clause-targets c =
    let old = c.args.self.now in
    record {
      between = marks_between (end_of old) 1 c.put_marks.new.updates c.put_marks-in-InSectors.new.updates c.args.before.now old.places (omega arith) (omega arith) c.in_ok-put_marks-in-InSectors-2.ensures.image
          (marks_between (end_of old) 0 old.updates c.put_marks.new.updates c.args.before.now old.places (omega arith) (omega arith) c.in_ok-put_marks-in-InSectors.ensures.image (between-wider 148 98 (end_of old) old.updates (omega arith) c.requires.targets));
      apart = c.put_marks-in-InSectors.ensures.apart;
    }

pub returns-in-AsNamed-clause-laid : goal.returns-in-AsNamed-clause-laid
returns-in-AsNamed-clause-laid c = λ version base size marking transaction whole marked.
    let old = c.args.self.now in
    record {
      laid = named_laid old.nodes size version _ old.places old.cached_nodes.cached_nodes transaction.laid (marking ∙ c.in-AsNamed.is) whole.end_is whole.forms
          (spare_still version size old.nodes old.updates (end_of old) base whole.region whole.end_is c.requires.targets whole.spare);
      tree_is = refl;
    }
