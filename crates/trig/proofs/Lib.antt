-- What a reader may ask of the tables: `degree_tables` (`DegreeTables`: each degree's sine and cosine, and the three doctored ends).
mod DegreeTables
