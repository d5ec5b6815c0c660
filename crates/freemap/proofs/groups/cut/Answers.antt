use Rattle.std.proofs.Common.{◌≡◌, ◌<◌, ◌-◌, ◌*◌, min, ℕ, List, [], ◌∷◌, ◌++◌, length, take, drop, sym, ap, subst, ◌∙◌, arith}
use Rattle.std.specs.List.{concat}
use Rattle.std.proofs.lemmas.List.{map-append}
use Rattle.freemap.specs.Kept.{AreGroups}
use Rattle.freemap.proofs.GroupLaws.{SharedGroup, bytes_in, more_bytes, more_groups}
use Rattle.freemap.proofs.groups.cut.Goals as goal

pub loop-part-preserved : goal.loop-part-preserved
loop-part-preserved c =
    let bits = c.args.bits.now in
    let old = bytes_in c.loop-part.groups.items in
    let part = c.loop-part.part in
    let group = c.in_ok-new.field-0 in
    let first : ℕ = 4096 * (128 * part) in
    let end : ℕ = 4096 * c.min-end.result in
    let one : bytes_in c.push.new.self.items ≡ old ++ group.value ∷ [] =
    ap bytes_in c.in_ok-push.ensures.items ∙ map-append (λ (g : SharedGroup). g.value) c.loop-part.groups.items (group ∷ []) in
    let start : first ≡ 524288 * part = omega arith in
    let within : 524288 * part < length bits = omega (arith, c.requires.len, c.loop-part-test.true, c.div_ceil-parts.ensures) in
    let rest : end - first ≡ min 524288 (length bits - 524288 * part) = omega (arith, c.requires.len, c.loop-part-test.true, c.div_ceil-parts.ensures, c.min-end.ensures) in
    let is : group.value ≡ take (end - first) (drop (524288 * part) bits) = c.in_ok-new.ensures.ok ∙ (c.in_ok-group.ensures ∙ ap (λ (n : ℕ). take (end - first) (drop n bits)) start) in
    record {
      bytes = ap concat one ∙ more_bytes old c.loop-part.invariant.groups bits group.value part (end - first) c.loop-part.invariant.bytes within is rest;
      groups = subst (λ (gs : List (List ℕ)). AreGroups gs) (sym one) (more_groups old c.loop-part.invariant.groups bits group.value part (end - first) c.loop-part.invariant.bytes within is rest);
    }
