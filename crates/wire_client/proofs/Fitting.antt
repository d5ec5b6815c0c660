-- An argument that can be encoded can be written.
use Rattle.std.proofs.Common.{ℕ, ◌≤◌, List, [], ◌∷◌, length, Option, None, Some, arith}
use Rattle.std.specs.Prelude.{map}
use Rattle.std.specs.Option.{option_map}
use Rattle.std.specs.List.{AllByRecursion}
use Rattle.std.proofs.lemmas.List.Elements.{All-from_recursion}
use Rattle.xdr.specs.Forms.{OptionalFits}
use Rattle.model.specs.Wire.WireTypes.{implementation, callback_security}
use Rattle.model.specs.Wire.WireArguments.{argument, claim, create_arguments, opening}
use Rattle.wire.specs.declared.small.Implementation.{Implementation}
use Rattle.wire.specs.declared.small.CallbackSecurity.{CallbackSecurity}
use Rattle.wire.specs.declared.small.CallbackSecurity.TheVariants as security
use Rattle.wire.specs.declared.directory.CreateArguments.{CreateArguments}
use Rattle.wire.specs.declared.directory.CreateArguments.TheVariants as create
use Rattle.wire.specs.declared.open.OpenType.TheVariants as open_type
use Rattle.wire.specs.declared.open.Claim.{Claim}
use Rattle.wire.specs.declared.open.Claim.TheVariants as claims
use Rattle.wire.specs.declared.open.Opening.{Opening}
use Rattle.wire.specs.declared.open.Opening.TheVariants as openings
use Rattle.wire.specs.declared.argument.Argument.{Argument}
use Rattle.wire.specs.declared.argument.Argument.TheVariants as arguments
use Rattle.wire.specs.SmallViews.{implementation_view, security_view}
use Rattle.wire.specs.ArgumentViews.{claim_view, create_view, opening_view}
use Rattle.wire.specs.ArgumentView.{argument_view}
use Rattle.wire_client.specs.ArgumentFits.{HasLength, MaybeImplementationFits, SecurityFits, CreateFits, ClaimFits, OpeningFits, ArgumentFits}
use Rattle.wire_client.proofs.Securities.{count}

has_length : (bytes : List ℕ) → length bytes ≤ 4294967295 → HasLength bytes
has_length bytes le = omega arith

implementation_fits : (one : Option Implementation) → OptionalFits implementation (option_map implementation_view one) → MaybeImplementationFits one
implementation_fits None fits = tt
implementation_fits (Some i) fits = (has_length i.domain.now fits.0, has_length i.name.now fits.1.0)

security_fits : (s : CallbackSecurity) → callback_security.Fits (security_view s) → SecurityFits s
security_fits security.NoSecurity fits = tt
security_fits (security.System c) fits = fits.1.1.0

securities_fit : (list : List CallbackSecurity) → AllByRecursion callback_security.Fits (map security_view list) → AllByRecursion SecurityFits list
securities_fit [] fits = tt
securities_fit (s ∷ list) fits = (security_fits s fits.0, securities_fit list fits.1)

create_fits : (a : CreateArguments) → create_arguments.Fits (create_view a) → CreateFits a
create_fits (create.NewDirectory name attributes) fits = (has_length name.now fits.1.0, has_length attributes.values.now fits.1.1.1)
create_fits (create.OtherType number) fits = fits.1

claim_fits : (by : Claim) → claim.Fits (claim_view by) → ClaimFits by
claim_fits (claims.ByName name) fits = has_length name.now fits.1
claim_fits claims.ByHandle fits = tt
claim_fits (claims.OtherClaim number) fits = fits.1

opening_fits : (how : Opening) → opening.Fits (opening_view how) → OpeningFits how
opening_fits (openings.Opens open_type.NoCreate by) fits = (tt, claim_fits by fits.1)
opening_fits (openings.Opens (open_type.Unchecked attributes) by) fits = (has_length attributes.values.now fits.1.1.0.1, claim_fits by fits.1.1.1)
opening_fits (openings.Opens (open_type.Guarded attributes) by) fits = (has_length attributes.values.now fits.1.1.0.1, claim_fits by fits.1.1.1)
opening_fits (openings.Exclusive mode) fits = tt

pub argument_fits : (a : Argument) → argument.Fits (argument_view a) → ArgumentFits a
argument_fits (arguments.Create a) fits = create_fits a fits.1
argument_fits (arguments.Lookup name) fits = has_length name.now fits.1
argument_fits (arguments.Open a) fits = (fits.1.1.1.1.1.0, opening_fits a.opening fits.1.1.1.1.1.1)
argument_fits (arguments.PutFh handle) fits = fits.1
argument_fits (arguments.Remove name) fits = has_length name.now fits.1
argument_fits (arguments.Rename a) fits = (has_length a.old_name.now fits.1.0, has_length a.new_name.now fits.1.1)
argument_fits (arguments.SetAttr a) fits = has_length a.attributes.values.now fits.1.1.1
argument_fits (arguments.Write a) fits = has_length a.data.now fits.1.1.1.1
argument_fits (arguments.ExchangeId a) fits = (fits.1.1.0, implementation_fits a.implementation fits.1.1.1.1.1)
argument_fits (arguments.CreateSession a) fits =
    let list = a.security.items in
    let all = fits.1.1.1.1.1.1.1 in
    let few : length list ≤ 4 = omega (arith, all.0, count list) in
    (few, All-from_recursion SecurityFits list (securities_fit list all.1))
argument_fits (arguments.Access a) fits = tt
argument_fits (arguments.Close a) fits = tt
argument_fits (arguments.Commit a) fits = tt
argument_fits (arguments.GetAttr a) fits = tt
argument_fits arguments.GetFh fits = tt
argument_fits arguments.LookupParent fits = tt
argument_fits arguments.PutRootFh fits = tt
argument_fits (arguments.Read a) fits = tt
argument_fits (arguments.ReadDir a) fits = tt
argument_fits arguments.RestoreFh fits = tt
argument_fits arguments.SaveFh fits = tt
argument_fits (arguments.DestroySession a) fits = tt
argument_fits (arguments.Sequence a) fits = tt
argument_fits (arguments.DestroyClientId a) fits = tt
argument_fits (arguments.ReclaimComplete a) fits = tt
