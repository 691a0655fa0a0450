-- What scopes and faults of the reader stand for.
--   names_of      the letters of a scope
--   kind_of, fault_of, found_of      a kind, a fault, a fault if there is one
use Rattle.std.specs.Prelude.{ℕ, Option, Some, None, List, [], ◌∷◌}
use Rattle.sg_spec.specs.Reading.{Kind as Trouble, numeral_fault, exponent_fault, unbound, form, Fault}
use Rattle.sg_text.specs.declared.scope.Scope.{Scope}
use Rattle.sg_text.specs.declared.found.Kind.{Kind}
use Rattle.sg_text.specs.declared.found.Kind.TheVariants.{Numeral, Exponent, Unbound, Form}
use Rattle.sg_text.specs.declared.found.Found.{Found}

abbrev pub one_or_none : Option ℕ → List ℕ
one_or_none None = []
one_or_none (Some p) = p ∷ []

abbrev pub names_of : Scope → List ℕ
names_of s = s.variable ∷ one_or_none s.parameter

abbrev pub kind_of : Kind → Trouble
kind_of Numeral = numeral_fault
kind_of Exponent = exponent_fault
kind_of Unbound = unbound
kind_of Form = form

abbrev pub fault_of : Found → Fault
fault_of f = record { kind = kind_of f.kind; place = f.at }

abbrev pub found_of : Option Found → Option Fault
found_of None = None
found_of (Some f) = Some (fault_of f)
