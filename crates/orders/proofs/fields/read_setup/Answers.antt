use Rattle.std.proofs.Common.{◌++◌, refl, sym, ◌∙◌, arith}
use Rattle.messages.specs.Numbers.{number_bytes}
use Rattle.messages.proofs.Spellings.{number_is_long, same_number}
use Rattle.orders.proofs.fields.read_setup.Goals as goal

pub returns-in_err-fuel-clause-none : goal.returns-in_err-fuel-clause-none
returns-in_err-fuel-clause-none c _ a b d e fa fb fd fe same =
    let long = number_is_long a (number_bytes b ++ (number_bytes d ++ number_bytes e)) _ same in
    omega (arith, c.in_err-fuel.ensures.none refl)

pub returns-in_err-depth-clause-none : goal.returns-in_err-depth-clause-none
returns-in_err-depth-clause-none c _ a b d e fa fb fd fe same =
    let behind = (same_number a c.in_ok-fuel.fuel (number_bytes b ++ (number_bytes d ++ number_bytes e)) _ fa c.in_ok-fuel.ensures.fits (same ∙ sym c.in_ok-fuel.ensures.found)).1 in
    let long = number_is_long b (number_bytes d ++ number_bytes e) _ behind in
    omega (arith, c.in_err-depth.ensures.none refl)

pub returns-in_err-pages-clause-none : goal.returns-in_err-pages-clause-none
returns-in_err-pages-clause-none c _ a b d e fa fb fd fe same =
    let behind = (same_number a c.in_ok-fuel.fuel (number_bytes b ++ (number_bytes d ++ number_bytes e)) _ fa c.in_ok-fuel.ensures.fits (same ∙ sym c.in_ok-fuel.ensures.found)).1 in
    let further = (same_number b c.in_ok-depth.depth (number_bytes d ++ number_bytes e) _ fb c.in_ok-depth.ensures.fits (behind ∙ sym c.in_ok-depth.ensures.found)).1 in
    let long = number_is_long d (number_bytes e) _ further in
    omega (arith, c.in_err-pages.ensures.none refl)

pub returns-in_err-entries-clause-none : goal.returns-in_err-entries-clause-none
returns-in_err-entries-clause-none c _ a b d e fa fb fd fe same =
    let behind = (same_number a c.in_ok-fuel.fuel (number_bytes b ++ (number_bytes d ++ number_bytes e)) _ fa c.in_ok-fuel.ensures.fits (same ∙ sym c.in_ok-fuel.ensures.found)).1 in
    let further = (same_number b c.in_ok-depth.depth (number_bytes d ++ number_bytes e) _ fb c.in_ok-depth.ensures.fits (behind ∙ sym c.in_ok-depth.ensures.found)).1 in
    let last = (same_number d c.in_ok-pages.pages (number_bytes e) _ fd c.in_ok-pages.ensures.fits (further ∙ sym c.in_ok-pages.ensures.found)).1 in
    c.in_err-entries.ensures.none refl e fe last
