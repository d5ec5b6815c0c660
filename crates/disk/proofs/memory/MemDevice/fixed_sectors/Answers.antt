use Rattle.std.proofs.Common.{◌≡◌, ◌∙◌, ap, sym, length, vec_len, arith}
use Rattle.std.proofs.lemmas.List.{with_items_is}
use Rattle.disk.specs.Calls.{image_of}
use Rattle.disk.proofs.LandingLemmas.{fixed_rows}
use Rattle.disk.proofs.memory.MemDevice.fixed_sectors.Goals as goal

pub returns-clause-fixed : goal.returns-clause-fixed
returns-clause-fixed c n =
    let self = c.args.self.now in
    let len : length c.replay.new.rows ≡ c.in_ok-rows.rows.len = omega arith in
    let first_len : length self.first.items ≡ vec_len self.sectors = omega (arith, self.first.ok, self.same_size) in
    let is_first = c.deref_mut.ensures.value ∙ c.in_ok-rows.ensures.rows ∙ c.deref.ensures.value in
    let rows_len : length c.replay.new.rows ≡ vec_len self.sectors = omega (arith, c.replay.auto.rows, ap length is_first, first_len) in
    ap (λ rows. image_of rows n) (with_items_is c.in_ok-rows.rows c.replay.new.rows len)
    ∙ fixed_rows (vec_len self.sectors) self.sectors.items self.first.items _ c.replay.new.rows self.calls.items _ _ c.synced_count.result n
    (sym self.sectors.ok.0) first_len rows_len (record { told = self.told; within = self.within })
    is_first c.deref-3.ensures.value c.deref-2.ensures.value c.synced_count.ensures.last (c.replay.ensures n)
