-- Which arguments can be encoded, as far as their types leave it open: RFC 8881, section 18.
use Rattle.std.specs.Prelude.{◌≢◌, ℕ, ◌<◌, ◌≤◌, ◌^◌, List, length, All, Option, Some, None}
use Rattle.wire.specs.declared.small.Attributes.{Attributes}
use Rattle.wire.specs.declared.small.Implementation.{Implementation}
use Rattle.wire.specs.declared.small.SystemCredential.{SystemCredential}
use Rattle.wire.specs.declared.small.CallbackSecurity.{CallbackSecurity}
use Rattle.wire.specs.declared.small.CallbackSecurity.TheVariants as security
use Rattle.wire.specs.declared.file.WriteArguments.{WriteArguments}
use Rattle.wire.specs.declared.directory.RenameArguments.{RenameArguments}
use Rattle.wire.specs.declared.directory.CreateArguments.{CreateArguments}
use Rattle.wire.specs.declared.directory.CreateArguments.TheVariants as create
use Rattle.wire.specs.declared.open.OpenType.{OpenType}
use Rattle.wire.specs.declared.open.OpenType.TheVariants as open_type
use Rattle.wire.specs.declared.open.Claim.{Claim}
use Rattle.wire.specs.declared.open.Claim.TheVariants as claims
use Rattle.wire.specs.declared.open.Opening.{Opening}
use Rattle.wire.specs.declared.open.Opening.TheVariants as openings
use Rattle.wire.specs.declared.open.OpenArguments.{OpenArguments}
use Rattle.wire.specs.declared.exchange.ExchangeIdArguments.{ExchangeIdArguments}
use Rattle.wire.specs.declared.session.CreateSessionArguments.{CreateSessionArguments}
use Rattle.wire.specs.declared.argument.Argument.{Argument}
use Rattle.wire.specs.declared.argument.Argument.TheVariants as argument

-- the length of a name, or of data
abbrev pub HasLength : List ℕ → Type 0
HasLength bytes = length bytes < 2 ^ 32

abbrev pub AttributesFit : Attributes → Type 0
AttributesFit a = HasLength a.values.now

abbrev pub ImplementationFits : Implementation → Type 0
ImplementationFits i = HasLength i.domain.now × HasLength i.name.now

abbrev pub MaybeImplementationFits : Option Implementation → Type 0
MaybeImplementationFits None = Unit {0}
MaybeImplementationFits (Some i) = ImplementationFits i

abbrev pub CredentialFits : SystemCredential → Type 0
CredentialFits c = length c.machine_name.now ≤ 255

abbrev pub SecurityFits : CallbackSecurity → Type 0
SecurityFits security.NoSecurity = Unit {0}
SecurityFits (security.System credential) = CredentialFits credential

-- a type other than NF4DIR, 2
abbrev pub CreateFits : CreateArguments → Type 0
CreateFits (create.NewDirectory name attributes) = HasLength name.now × AttributesFit attributes
CreateFits (create.OtherType number) = number ≢ 2

abbrev pub OpenTypeFits : OpenType → Type 0
OpenTypeFits open_type.NoCreate = Unit {0}
OpenTypeFits (open_type.Unchecked attributes) = AttributesFit attributes
OpenTypeFits (open_type.Guarded attributes) = AttributesFit attributes

-- a claim other than CLAIM_NULL, 0, and CLAIM_FH, 4
abbrev pub ClaimFits : Claim → Type 0
ClaimFits (claims.ByName name) = HasLength name.now
ClaimFits claims.ByHandle = Unit {0}
ClaimFits (claims.OtherClaim number) = (number ≢ 0) × (number ≢ 4)

abbrev pub OpeningFits : Opening → Type 0
OpeningFits (openings.Opens how claim) = OpenTypeFits how × ClaimFits claim
OpeningFits (openings.Exclusive mode) = Unit {0}

abbrev pub OpenFits : OpenArguments → Type 0
OpenFits a = (length a.owner.now ≤ 1024) × OpeningFits a.opening

abbrev pub RenameFits : RenameArguments → Type 0
RenameFits a = HasLength a.old_name.now × HasLength a.new_name.now

abbrev pub WriteFits : WriteArguments → Type 0
WriteFits a = HasLength a.data.now

abbrev pub ExchangeIdFits : ExchangeIdArguments → Type 0
ExchangeIdFits a = (length a.owner.now ≤ 1024) × MaybeImplementationFits a.implementation

abbrev pub CreateSessionFits : CreateSessionArguments → Type 0
CreateSessionFits a = (length a.security.items ≤ 4) × All SecurityFits a.security.items

abbrev pub ArgumentFits : Argument → Type 0
ArgumentFits (argument.Create a) = CreateFits a
ArgumentFits (argument.Lookup name) = HasLength name.now
ArgumentFits (argument.Open a) = OpenFits a
ArgumentFits (argument.PutFh handle) = length handle.now ≤ 128
ArgumentFits (argument.Remove name) = HasLength name.now
ArgumentFits (argument.Rename a) = RenameFits a
ArgumentFits (argument.SetAttr a) = AttributesFit a.attributes
ArgumentFits (argument.Write a) = WriteFits a
ArgumentFits (argument.ExchangeId a) = ExchangeIdFits a
ArgumentFits (argument.CreateSession a) = CreateSessionFits a
ArgumentFits (argument.Access a) = Unit {0}
ArgumentFits (argument.Close a) = Unit {0}
ArgumentFits (argument.Commit a) = Unit {0}
ArgumentFits (argument.GetAttr a) = Unit {0}
ArgumentFits argument.GetFh = Unit {0}
ArgumentFits argument.LookupParent = Unit {0}
ArgumentFits argument.PutRootFh = Unit {0}
ArgumentFits (argument.Read a) = Unit {0}
ArgumentFits (argument.ReadDir a) = Unit {0}
ArgumentFits argument.RestoreFh = Unit {0}
ArgumentFits argument.SaveFh = Unit {0}
ArgumentFits (argument.DestroySession a) = Unit {0}
ArgumentFits (argument.Sequence a) = Unit {0}
ArgumentFits (argument.DestroyClientId a) = Unit {0}
ArgumentFits (argument.ReclaimComplete a) = Unit {0}
