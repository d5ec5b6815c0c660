-- What is returned of a node's attributes, and how long it is.
use Rattle.std.proofs.Common.{◌≡◌, ℕ, Bool, true, false, cond, ◌+◌, ◌*◌, ◌%◌, List, [], ◌∷◌, ◌++◌, length, map, replicate, refl, sym, ap, subst, ◌∙◌, arith}
use Rattle.std.specs.Prelude.{Result}
use Rattle.std.specs.Int.{w32}
use Rattle.std.specs.List.{flat_map}
use Rattle.std.proofs.lemmas.List.{append-nil, length-append}
use Rattle.xdr.specs.declared.refusal.Refusal.{Refusal}
use Rattle.xdr.specs.Clauses.{Written, Wrote}
use Rattle.xdr.specs.Grammar.{number}
use Rattle.xdr.specs.Forms.{counted, elements, padded, padding}
use Rattle.xdr.proofs.Sizes.{counted_length, elements_length}
use Rattle.model.specs.Attributes.Attribute.{attributes_of, is_among, trimmed}
use Rattle.model.specs.Attributes.AttributeValue.{attribute_of, value_text}
use Rattle.model.specs.Attributes.NodeAttributes.{asked_values, common, supported_bitmap}
use Rattle.model.specs.Wire.WireAnswers.{answered_attributes}
use Rattle.wire_attributes.specs.declared.attribute.Attribute.{Attribute}
use Rattle.wire_attributes.specs.declared.attribute.Attribute.TheVariants as attribute
use Rattle.wire_attributes.specs.declared.node.NodeAttributes.{NodeAttributes}
use Rattle.wire_attributes.specs.NodeValues.{attribute_number, value_of, value_encoded, encoded_if, asked_text, every_attribute, attributes_answered}

-- the number of an attribute is its value's
same_number : (node : NodeAttributes) (a : Attribute) → attribute_of (value_of node a) ≡ attribute_number a
same_number node attribute.SupportedAttrs = refl
same_number node attribute.Kind = refl
same_number node attribute.FhExpireType = refl
same_number node attribute.Change = refl
same_number node attribute.Size = refl
same_number node attribute.LinkSupport = refl
same_number node attribute.SymlinkSupport = refl
same_number node attribute.NamedAttr = refl
same_number node attribute.Fsid = refl
same_number node attribute.UniqueHandles = refl
same_number node attribute.LeaseTime = refl
same_number node attribute.RdattrError = refl
same_number node attribute.Acl = refl
same_number node attribute.AclSupport = refl
same_number node attribute.FileHandle = refl
same_number node attribute.FileId = refl
same_number node attribute.MaxFileSize = refl
same_number node attribute.MaxName = refl
same_number node attribute.MaxRead = refl
same_number node attribute.MaxWrite = refl
same_number node attribute.Mode = refl
same_number node attribute.NumLinks = refl
same_number node attribute.Owner = refl
same_number node attribute.OwnerGroup = refl
same_number node attribute.TimeModify = refl
same_number node attribute.SuppattrExclcreat = refl

-- bytes that need none after them are encoded after their length as they are
pub counted_whole : (bytes : List ℕ) → length bytes % 4 ≡ 0 → counted bytes ≡ number w32 (length bytes) ++ bytes
unfolding counted padded
counted_whole bytes whole =
    let none : padding (length bytes) ≡ 0 = omega (arith, whole) in
    ap (λ n. number w32 (length bytes) ++ (bytes ++ replicate n 0)) none ∙ ap (λ l. number w32 (length bytes) ++ l) (append-nil bytes)

module _ (node : NodeAttributes) (bitmap : List ℕ) where
  -- the texts of those that are asked for are the encoding of the values that are asked for
  pub texts_are : (attributes : List Attribute)
      → flat_map (asked_text node bitmap) attributes ≡ flat_map value_text (asked_values (attributes_of bitmap) (map (value_of node) attributes))
  unfolding asked_text
  texts_are [] = refl
  texts_are (a ∷ rest) =
      let asked = attributes_of bitmap in
      ap (λ n. encoded_if (is_among asked n) (value_encoded node a) ++ flat_map (asked_text node bitmap) rest) (sym (same_number node a))
      ∙ here (is_among asked (attribute_of (value_of node a))) (texts_are rest)
    where
      here : (is_asked : Bool) → flat_map (asked_text node bitmap) rest ≡ flat_map value_text (asked_values (attributes_of bitmap) (map (value_of node) rest))
          → encoded_if is_asked (value_encoded node a) ++ flat_map (asked_text node bitmap) rest
          ≡ flat_map value_text (cond is_asked (value_of node a ∷ asked_values (attributes_of bitmap) (map (value_of node) rest)) (asked_values (attributes_of bitmap) (map (value_of node) rest)))
      here true same = ap (λ l. value_encoded node a ++ l) same
      here false same = same

  pub not_asked : (a : Attribute) → is_among (attributes_of bitmap) (attribute_number a) ≡ false → asked_text node bitmap a ≡ []
  unfolding asked_text
  not_asked a is = ap (λ b. encoded_if b (value_encoded node a)) is

  pub is_asked : (a : Attribute) → is_among (attributes_of bitmap) (attribute_number a) ≡ true → asked_text node bitmap a ≡ value_encoded node a
  unfolding asked_text
  is_asked a is = ap (λ b. encoded_if b (value_encoded node a)) is

  abbrev pub values_text : List ℕ
  values_text = flat_map (asked_text node bitmap) every_attribute

  abbrev pub words : List ℕ
  words = trimmed (common bitmap supported_bitmap)

  -- it is encoded as its bitmap, and the values after their length
  pub encoded : answered_attributes.encoding (attributes_answered node bitmap) ≡ elements (λ n. number w32 n) words ++ counted values_text
  unfolding attributes_answered
  encoded = ap (λ (text : List ℕ). elements (λ n. number w32 n) words ++ counted text) (sym (texts_are every_attribute))

  pub answer_length : (count size : ℕ) → count ≡ length words → size ≡ length values_text → size % 4 ≡ 0
      → 8 + 4 * count + size ≡ length (answered_attributes.encoding (attributes_answered node bitmap))
  answer_length count size is_count is_size whole =
      omega (arith, ap length encoded, length-append (elements (λ n. number w32 n) words) (counted values_text), elements_length words, counted_length values_text, is_count, is_size, whole)

  abbrev IsAllWritten : Written → Written → Result (Unit {0}) Refusal → Type 0
  IsAllWritten a c r = Wrote a c r (answered_attributes.encoding (attributes_answered node bitmap))

  -- what was written in parts is the encoding
  module _ (ws : List ℕ) (is : ws ≡ words) {a c : Written} {r : Result (Unit {0}) Refusal} where
    pub prefix_written : Wrote a c r (elements (λ n. number w32 n) ws ++ counted values_text) → IsAllWritten a c r
    prefix_written w =
        subst (λ (text : List ℕ). Wrote a c r text) (ap (λ (l : List ℕ). elements (λ n. number w32 n) l ++ counted values_text) is ∙ sym encoded) w

    pub all_written : (size : ℕ) → size ≡ length values_text → size % 4 ≡ 0
        → Wrote a c r (elements (λ n. number w32 n) ws ++ (number w32 size ++ values_text)) → IsAllWritten a c r
    all_written size is_size whole w =
        let values : number w32 size ++ values_text ≡ counted values_text =
        ap (λ n. number w32 n ++ values_text) is_size ∙ sym (counted_whole values_text (ap (λ n. n % 4) (sym is_size) ∙ whole)) in
        prefix_written (subst (λ (text : List ℕ). Wrote a c r (elements (λ n. number w32 n) ws ++ text)) values w)
