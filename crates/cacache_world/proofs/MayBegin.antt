-- Which commands a call may begin with.
use Rattle.std.proofs.Common.{◌≡◌, ℕ, Bool, true, false, refl, sym}
use Rattle.cacache_calls.specs.declared.command.Link as links
use Rattle.cacache_calls.specs.declared.command.Export as exports
use Rattle.cacache_calls.specs.{declared.command.Source.{Source}, Sound.{FormsCommand}, Linking.{based}}
use Rattle.cacache_calls.specs.declared.command.Command.TheVariants as commands
use Rattle.cacache_history.specs.{History.{NamesSource}, Setup.{Setup, call_site, may_export, is_outside}}
use Rattle.cacache_world.specs.Faults.{Judges}

pub judges_link : (s : Setup) (n : ℕ) (l : links.Link) (leads : Bool) → leads ≡ is_outside s (based s.base l.target)
    → FormsCommand (call_site s n) (commands.Link l) → Judges leads s n (commands.Link l)
judges_link s n l true is forms = ((record { here = refl; formed = forms }, sym is), tt)
judges_link s n l false is forms = sym is

pub judges_export : (s : Setup) (n : ℕ) (source : Source) (e : exports.Export) (may : Bool) → may ≡ may_export s e.to → NamesSource source → Judges may s n (commands.Export source e)
judges_export s n source e true is named = (sym is, named)
judges_export s n source e false is named = sym is
