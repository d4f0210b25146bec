mod AllLemmas
mod RowLemmas
