use Rattle.std.proofs.Common.{◌++◌, Bool, drop, refl, ap, sym, subst}
use Rattle.model.specs.Wire.Record.{RecordTooBig, TooManyFragments}
use Rattle.rpc.specs.declared.fragment.Fragment.TheVariants as found
use Rattle.rpc.specs.Assembly.{scan_of, Finds}
use Rattle.rpc.proofs.Walks.{begins, searches_on, ended, waits, refuses}
use Rattle.rpc.proofs.scan.scan_record.Goals as goal

pub loop-size-init : goal.loop-size-init
loop-size-init c = begins (c.args.old.now ++ c.args.piece.now) _ refl refl refl

pub returns-in-Waits-clause-end : goal.returns-in-Waits-clause-end
returns-in-Waits-clause-end c =
    let s = c.loop-size.invariant in
    ap (scan_of (c.args.old.now ++ c.args.piece.now)) (sym (waits s.walks (c.in-Waits.ensures s.gathered s.walks.size s.walks.fragments)))

pub returns-in-TooBig-clause-end : goal.returns-in-TooBig-clause-end
returns-in-TooBig-clause-end c =
    let s = c.loop-size.invariant in
    let is = c.in-TooBig.ensures s.gathered s.walks.size s.walks.fragments in
    ap (scan_of (c.args.old.now ++ c.args.piece.now)) (sym (refuses RecordTooBig s.walks is.0 is.1))

pub returns-in-TooMany-clause-end : goal.returns-in-TooMany-clause-end
returns-in-TooMany-clause-end c =
    let s = c.loop-size.invariant in
    let is = c.in-TooMany.ensures s.gathered s.walks.size s.walks.fragments in
    ap (scan_of (c.args.old.now ++ c.args.piece.now)) (sym (refuses TooManyFragments s.walks is.0 is.1))

pub returns-then-is_last-clause-end : goal.returns-then-is_last-clause-end
returns-then-is_last-clause-end c =
    let all = c.args.old.now ++ c.args.piece.now in
    let s = c.loop-size.invariant in
    let is = subst (λ (b : Bool). Finds s.gathered (drop c.loop-size.place.at all) (found.Brings c.in-Brings.size b)) c.if-is_last.true
    (c.in-Brings.ensures s.gathered s.walks.size s.walks.fragments) in
    ended all c.loop-size.place c.in-Brings.size s is

pub loop-size-preserved : goal.loop-size-preserved
loop-size-preserved c =
    let all = c.args.old.now ++ c.args.piece.now in
    let s = c.loop-size.invariant in
    let is = subst (λ (b : Bool). Finds s.gathered (drop c.loop-size.place.at all) (found.Brings c.in-Brings.size b)) c.if-is_last.false
    (c.in-Brings.ensures s.gathered s.walks.size s.walks.fragments) in
    searches_on all c.loop-size.place c.behind-place.result c.in-Brings.size s is c.behind-place.ensures.at c.behind-place.ensures.size c.behind-place.ensures.fragments
