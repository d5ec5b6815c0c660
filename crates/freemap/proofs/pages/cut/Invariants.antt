use Rattle.std.proofs.Common.{◌≡◌, ◌*◌, map, take}
use Rattle.std.specs.List.{concat}
use Rattle.freemap.specs.Kept.{AreSectors}
use Rattle.freemap.proofs.pages.cut.Given as goal

abbrev pub invariant-loop-part : goal.invariant-loop-part
invariant-loop-part l = record {
  bytes : concat (map (λ page. page.value) l.pages.items) ≡ take (4096 * l.part) l.bits;
  sectors : AreSectors (map (λ page. page.value) l.pages.items);
}
