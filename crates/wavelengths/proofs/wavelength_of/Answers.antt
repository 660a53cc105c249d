-- N - i in place of minus i keeps the sum above zero, and is how the wavelength is defined.
use mathlib.Core.Path.{refl}
use Rattle.wavelengths.specs.Shared.{wavelength}
use Rattle.wavelengths.proofs.Shared.{wavelength-in}
use Rattle.wavelengths.proofs.wavelength_of.Goals as goal

pub returns : goal.returns
unfolding wavelength
returns c = (refl, wavelength-in _ _ _ c.requires.0 c.requires.1)
