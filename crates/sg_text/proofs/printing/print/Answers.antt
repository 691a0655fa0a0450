use Rattle.std.proofs.Common.{List, ℕ, false, sym, subst}
use Rattle.std.specs.Prelude.{◌≡◌}
use Rattle.sg_spec.specs.Tree.{Tree}
use Rattle.sg_spec.specs.Reading.{Reads}
use Rattle.sg_spec.specs.Printing.{SparesBound, has_parameter, InForm, IsShort, HasFewest, NoBlank}
use Rattle.sg_text.specs.Reads.{IsFree}
use Rattle.sg_text.specs.PrintedText.{printed}
use Rattle.sg_expr.specs.Tree.{tree_of}
use Rattle.sg_text.proofs.PrintReads.{reads-printed}
use Rattle.sg_text.proofs.PrintBounds.{is_read}
use Rattle.sg_text.proofs.PrintFewest.{printed-fewest}
use Rattle.sg_text.proofs.PrintBlanks.{printed-blanks}
use Rattle.sg_syntax.proofs.Unique.{Reads-unique}
use Rattle.sg_text.proofs.printing.print.Goals as goal

record IsPrinted (w names : List ℕ) (e : Tree) : Type 0 where
  reads : Reads w names e
  fewest : HasFewest w names e
  no_blank : NoBlank w

printed_is : (w names : List ℕ) (e : Tree) → w ≡ printed names e → IsFree names → SparesBound names → InForm (has_parameter names) false e → IsShort e → IsPrinted w names e
printed_is w names e is h k f s =
    subst (λ q. IsPrinted q names e) (sym is)
    (record { reads = reads-printed names e h k f s; fewest = printed-fewest names e h s; no_blank = printed-blanks names e (has_parameter names) h f s })

pub returns-clause-reads_back : goal.returns-clause-reads_back
returns-clause-reads_back c =
    (printed_is c.in_ok-out.out c.args.free.now (tree_of c.args.e.now) c.in_ok-out.ensures.text c.requires.letters c.requires.apart c.requires.form c.in_ok-out.ensures.short).reads

pub returns-clause-only : goal.returns-clause-only
returns-clause-only c =
    λ f r. Reads-unique c.in_ok-out.out c.args.free.now f (tree_of c.args.e.now) r
    (printed_is c.in_ok-out.out c.args.free.now (tree_of c.args.e.now) c.in_ok-out.ensures.text c.requires.letters c.requires.apart c.requires.form c.in_ok-out.ensures.short).reads

pub returns-clause-bounded : goal.returns-clause-bounded
returns-clause-bounded c =
    λ bounds k. is_read bounds c.in_ok-out.out c.args.free.now (tree_of c.args.e.now)
    (printed_is c.in_ok-out.out c.args.free.now (tree_of c.args.e.now) c.in_ok-out.ensures.text c.requires.letters c.requires.apart c.requires.form c.in_ok-out.ensures.short).reads k

pub returns-clause-fewest : goal.returns-clause-fewest
returns-clause-fewest c =
    (printed_is c.in_ok-out.out c.args.free.now (tree_of c.args.e.now) c.in_ok-out.ensures.text c.requires.letters c.requires.apart c.requires.form c.in_ok-out.ensures.short).fewest

pub returns-clause-no_blank : goal.returns-clause-no_blank
returns-clause-no_blank c =
    (printed_is c.in_ok-out.out c.args.free.now (tree_of c.args.e.now) c.in_ok-out.ensures.text c.requires.letters c.requires.apart c.requires.form c.in_ok-out.ensures.short).no_blank
