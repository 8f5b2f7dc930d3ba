mod Listed
mod Known
mod InputReads
mod Serving
mod AnswerLaws
mod Threading
