use Rattle.std.proofs.Common.{◌<◌, ℕ, List, length, set, sym, subst, vec_len, arith}
use Rattle.std.proofs.lemmas.List.Elements.{All-set}
use Rattle.disk.specs.declared.call.Call.TheVariants.{Write}
use Rattle.disk.specs.Moments.{IsSector}
use Rattle.disk.proofs.RecordLemmas.{IsTold, recorded_write_is_told, pushed, recorded, counted_fault}
use Rattle.disk.proofs.memory.MemDeviceDevice.write.Goals as goal

pub returns-then-is_err-clause-cause : goal.returns-then-is_err-clause-cause
returns-then-is_err-clause-cause c = rw c.fail.ensures.fault (counted_fault _ _ c.fail.ensures.counted)

pub invariant_of-self-2 : goal.invariant_of-self-2
invariant_of-self-2 c =
    let self = c.args.self.now in
    let below : c.args.n < vec_len self.sectors = omega arith in
    let inside : c.args.n < length self.sectors.items = omega (arith, self.sectors.ok) in
    let told = recorded_write_is_told (vec_len self.sectors) self.sectors.items self.first.items self.calls.items _ c.args.n c.args.content.now inside below
    (pushed _ _ _ _ _ c.push.ensures.items c.is_err.ensures.negation c.if-is_err.false) (record { told = self.told; within = self.within }) in
    let P : List ℕ → Type 0 = λ bytes. IsTold (vec_len self.sectors) (set self.sectors.items c.args.n bytes) self.first.items c.push.new.self.items in
    let copied = subst P (sym c.sector_of.ensures.same) told in
    record {
      few = self.few;
      same_size = self.same_size;
      told = copied.told;
      within = copied.within;
      rows = All-set IsSector self.sectors.items c.args.n c.sector_of.result c.sector_of.ensures.sector self.rows;
    }

pub returns-clause-ok : goal.returns-clause-ok
returns-clause-ok c =
    recorded _ _ _ (Write (record { target = c.args.n; content = c.args.content.now }))
    (pushed _ _ _ _ _ c.push.ensures.items c.is_err.ensures.negation c.if-is_err.false)
