use Rattle.std.proofs.Common.{◌∙◌, ◌+◌, [], ℕ, List, length, get_or, ap, arith}
use Rattle.std.proofs.lemmas.List.{length-take}
use Rattle.disk.specs.declared.update.Update.{Update}
use Rattle.disk.specs.Moments.{History, seen}
use Rattle.journal.specs.Layout.{targets}
use Rattle.journal.proofs.Behinds.{named_more, named_whole}
use Rattle.journal.proofs.Images.{length-targets}
use Rattle.journal.proofs.Lists.{targets-push}
use Rattle.journal.proofs.Phases.{copied_more, copied_whole}
use Rattle.journal.proofs.recover.read_payload.Goals as goal

pub push_reserved-requires : goal.push_reserved-requires
push_reserved-requires g c = omega (
  arith,
  length-targets c.loop-i.updates.items,
  ap (λ (ts : List ℕ). length ts) c.loop-i.invariant.named,
  length-take c.loop-i.i c.args.to.now,
  c.loop-i.updates.ok,
  c.loop-i.invariant.capacity,
  c.requires.room,
  c.requires.few,
)

pub loop-i-preserved : goal.loop-i-preserved
loop-i-preserved g c =
    let us = c.loop-i.updates.items in
    let u : Update = record { target = get_or c.args.to.now c.loop-i.i 0; content = c.read.new.content } in
    record {
      read = λ k. copied_more c.args.area.first (seen (g.D.Device.history c.args.device.now).now) c.args.to.now c.loop-i.i us c.push_reserved.new.self.items c.read.new.content
          (omega arith) (c.loop-i.invariant.read k)
          (c.in_ok-read.ensures.ok k ∙ ap (λ (h : History). seen h.now (c.args.area.first + c.loop-i.i)) c.loop-i.invariant.history)
          c.push_reserved.ensures.items;
      named = named_more [] c.args.to.now (targets us) (targets c.push_reserved.new.self.items) c.loop-i.i (omega arith) c.loop-i.invariant.named
          (ap (λ (vs : List Update). targets vs) c.push_reserved.ensures.items ∙ targets-push us u);
      capacity = c.push_reserved.ensures.capacity ∙ c.loop-i.invariant.capacity;
      history = c.in_ok-read.ensures.history ∙ c.loop-i.invariant.history;
      size = c.in_ok-read.ensures.size ∙ c.loop-i.invariant.size;
      none = c.in_ok-read.ensures.cause.ok ∙ c.loop-i.invariant.none;
    }

pub returns-clause-ok : goal.returns-clause-ok
returns-clause-ok g c = λ k.
    copied_whole c.args.area.first (seen (g.D.Device.history c.args.device.now).now) c.args.to.now c.loop-i.i c.loop-i.updates.items (omega arith) (c.loop-i.invariant.read k)

pub returns-clause-named : goal.returns-clause-named
returns-clause-named g c = named_whole [] c.args.to.now (targets c.loop-i.updates.items) c.loop-i.i (omega arith) c.loop-i.invariant.named
