-- The contract of `read`.
--   IsFree          one or two different lower-case letters: the variable's, and the parameter's
--   refusal_of      the refusal that a fault of the reader tells; none where it is out of memory
--   Refuses         a fault tells the exact cause
--   IsTextFault     a fault tells the place at which the text stops being one, or out of memory
--   OneTree         a text reads as at most one tree
use Rattle.std.specs.Prelude.{◌≡◌, ◌≢◌, ℕ, ◌≤◌, List, [], ◌∷◌, Option, Some, None}
use Rattle.sg_spec.specs.Tree.{Tree}
use Rattle.sg_spec.specs.Grammar.{IsSyntaxFault}
use Rattle.sg_spec.specs.Reading.{numeral_fault, exponent_fault, unbound, form, Bounds, Refusal, too_long, too_deep, no_text, faulty, IsRefused, Reads}
use Rattle.sg_text.specs.declared.fault.ReadFault.{ReadFault}
use Rattle.sg_text.specs.declared.fault.ReadFault.TheVariants.{Long, Deep, Syntax, Numeral, Exponent, Unbound, Form, Memory}

abbrev pub IsLetter : ℕ → Type 0
IsLetter c = (97 ≤ c) × (c ≤ 122)

abbrev pub IsFree : List ℕ → Type 0
IsFree [] = ⊥
IsFree (v ∷ []) = IsLetter v
IsFree (v ∷ (p ∷ [])) = IsLetter v × IsLetter p × (v ≢ p)
IsFree (v ∷ (p ∷ (x ∷ others))) = ⊥

abbrev pub refusal_of : ReadFault → Option Refusal
refusal_of Long = Some too_long
refusal_of (Deep p) = Some (too_deep p)
refusal_of (Syntax p) = Some (no_text p)
refusal_of (Numeral p) = Some (faulty (record { kind = numeral_fault; place = p }))
refusal_of (Exponent p) = Some (faulty (record { kind = exponent_fault; place = p }))
refusal_of (Unbound p) = Some (faulty (record { kind = unbound; place = p }))
refusal_of (Form p) = Some (faulty (record { kind = form; place = p }))
refusal_of (Memory e) = None

abbrev pub RefusedBy : Bounds → List ℕ → List ℕ → Option Refusal → Type 0
RefusedBy bounds names w None = Unit {0}
RefusedBy bounds names w (Some r) = IsRefused bounds names w r

abbrev pub Refuses : Bounds → List ℕ → List ℕ → ReadFault → Type 0
Refuses bounds names w f = RefusedBy bounds names w (refusal_of f)

abbrev pub IsTextFault : List ℕ → ReadFault → Type 0
IsTextFault w (Syntax p) = IsSyntaxFault w p
IsTextFault w (Memory e) = Unit {0}
IsTextFault w other = ⊥

abbrev pub OneTree : List ℕ → List ℕ → Type 0
OneTree w names = (e f : Tree) → Reads w names e → Reads w names f → e ≡ f
