-- `reading::entry::first_entry` meets its contract: what it lends is what the statement says.
use Rattle.std.proofs.Common.{Ok, sym, ap, ◌∙◌, arith}
use Rattle.header.specs.Lookup.{entry_of}
use Rattle.header.proofs.Leading.{statement-lies}
use Rattle.reading.proofs.EntryLaws.{stood, stood_malformed, entries_one, entries_end, entries_malformed}
use Rattle.reading.proofs.entry.first_entry.Goals as goal

pub returns-in_err-ok : goal.returns-in_err-ok
returns-in_err-ok c =
    let here = sym c.statement_at.ensures ∙ stood_malformed _ c.in_err-ok.ensures.value in
    rw c.from_residual.ensures (entries_malformed _ _ here)

pub returns-in_err-t : goal.returns-in_err-t
returns-in_err-t c =
    let here = sym c.statement_at.ensures ∙ stood _ c.in_ok-ok.ensures.value ∙ ap Ok c.in_err-t.was in
    rw c.from_residual-in_err-t.ensures (entries_end _ _ here)

pub key_bytes-requires : goal.key_bytes-requires
key_bytes-requires c =
    let here = sym c.statement_at.ensures ∙ stood _ c.in_ok-ok.ensures.value ∙ ap Ok c.in_ok-t.was in
    let lies = statement-lies _ _ _ here in
    (lies.2, omega arith)

pub value_bytes-requires : goal.value_bytes-requires
value_bytes-requires c =
    let here = sym c.statement_at.ensures ∙ stood _ c.in_ok-ok.ensures.value ∙ ap Ok c.in_ok-t.was in
    let lies = statement-lies _ _ _ here in
    (lies.3, omega arith)

pub overflow_add-result : goal.overflow_add-result
overflow_add-result c =
    let here = sym c.statement_at.ensures ∙ stood _ c.in_ok-ok.ensures.value ∙ ap Ok c.in_ok-t.was in
    omega (arith, statement-lies _ _ _ here)

pub returns : goal.returns
returns c =
    let here = sym c.statement_at.ensures ∙ stood _ c.in_ok-ok.ensures.value ∙ ap Ok c.in_ok-t.was in
    record {
      entry = entry_of c.args.s.now c.in_ok-t.t;
      entries = entries_one _ _ here;
      key = c.key_bytes.ensures;
      value = c.value_bytes.ensures;
    }
