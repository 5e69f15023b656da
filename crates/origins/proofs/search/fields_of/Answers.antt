-- `origins::search::fields_of` meets its contract.
use Rattle.origins.proofs.search.fields_of.Goals as goal

pub returns : goal.returns
returns c =
    λ i. record {
      datatype = c.trace.ensures i;
      byteorder = c.trace-2.ensures i;
      compression = c.trace-3.ensures i;
      dims = c.trace-4.ensures i;
      configuration = c.trace-5.ensures i;
      orientation = c.trace-6.ensures i;
      offset = c.trace-7.ensures i;
    }
