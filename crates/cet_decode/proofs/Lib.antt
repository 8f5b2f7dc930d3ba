mod Narrowing
mod LeadLaws
mod IndexLaws
mod RowLaws
